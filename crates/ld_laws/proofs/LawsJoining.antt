-- What a person who joins leaves as it was: the cells of the run and of the others, who is a member of which role,
-- and so all that the others are shown.
use mathlib.Core.Path.{fun_ext}
use Rattle.std.proofs.Common.{◌≡◌, refl, ap, ap₂, subst, ◌∙◌, ℕ, ◌+◌, ◌<◌, ℤ, List, [], ◌∷◌, ◌++◌, map, flat_map, filter, length, Option, Some, None, Ok, Bool, true, false, cond, codes, decimal, is_some, option_map, length-append, slice_get, sym, nat_lt, ◌&&◌}
use Rattle.std.proofs.lemmas.Bool.{ltb-false}
use Rattle.std.proofs.lemmas.Option.{slice_get_past}
use Rattle.std.specs.Option.{option_map_or}
use Rattle.ld_base.specs.Maybe.{◌>>=◌, provided}
use Rattle.ld_value.specs.Datum.{truth_datum}
use Rattle.ld_base.specs.Numbers.{numbers_below}
use Rattle.ld_model.specs.Counting.{each_numbered_from}
use Rattle.ld_model.specs.RoleRows.{RoleRow}
use Rattle.ld_model.specs.Roles.{roles_of}
use Rattle.ld_model.specs.declared.cell.CellName.TheVariants.{Started}
use Rattle.ld_model.specs.declared.cell.Owner.{Owner}
use Rattle.ld_model.specs.declared.cell.Owner.TheVariants.{Run}
use Rattle.ld_model.specs.declared.method.Act.{Act}
use Rattle.ld_model.specs.declared.method.Play.{Play}
use Rattle.ld_model.specs.declared.method.RolePart.{RolePart}
use Rattle.ld_model.specs.declared.unit.Unit.{Unit}
use Rattle.ld_names.specs.Names.{role_number, thing_number}
use Rattle.ld_names.specs.Rules.{kind_of, rules_of}
use Rattle.ld_names.specs.declared.rule.Rule.{Rule}
use Rattle.ld_names.specs.declared.rule.RuleKind.{RuleKind}
use Rattle.ld_names.specs.declared.rule.RuleKind.TheVariants.{Person as OfPerson, Run as OfRun}
use Rattle.ld_lines.specs.declared.command.RunCommand.TheVariants.{Enrol}
use Rattle.ld_expr.specs.Done.{is_done, mark_for}
use Rattle.ld_expr.specs.Lookup.{completing_number, is_some_and}
use Rattle.ld_expr.specs.Membership.{is_member, members}
use Rattle.ld_expr.specs.Owners.{mark_owner, of_person}
use Rattle.ld_expr.specs.Seen.{Seen, everyone, says_yes, visibility_cell, act_opened_cell, mark_cell}
use Rattle.ld_roles.specs.Membership.{is_member_among, is_member_by}
use Rattle.ld_roles.specs.RoleBounds.{role_bounds}
use Rattle.ld_roles.specs.Roster.{Persons, newcomer, is_member_in}
use Rattle.ld_state.specs.GlobalValues.{GlobalValues}
use Rattle.ld_state.specs.RunState.{RunState, seen_in, cell_of, joined}
use Rattle.ld_state.proofs.Memberships.{below_more}
use Rattle.ld_rules.specs.LawWords.{HasOwner}
use Rattle.ld_rules.proofs.Alike.{same_if}
use Rattle.ld_rules.specs.SiteTests.{opening_of}
use Rattle.ld_tree.specs.Lines.{line_text, spaced}
use Rattle.ld_tree.specs.Tree.{is_open, tree_lines}
use Rattle.ld_run.specs.Changes.{directly_changed}
use Rattle.ld_admission.specs.Checks.{admitted, in_time, not_enrolled, has_seat, is_started}
use Rattle.ld_admission.specs.Commands.{Admitted, enrols, assigns, drops, starts, opens, completes, sets, clears, gets, shows_tree, shows_outbox, reports, ticks, shows_next}
use Rattle.ld_replies.specs.Replies.{answer_told, counted_lines, printed_value}
use Rattle.ld_replies.specs.Reports.{report_of_role, report_of_part, report_of_act, report_of_play, report_lines, done_or_open, progress_word, moment_word, WordLine}
use Rattle.ld_run.specs.RunStep.{DoneCommand, run_step}
use Rattle.ld_run.proofs.LawsKept.{begun}
use Rattle.ld_run.proofs.Joining.{joining_leaves, joining_leaves_member, joining_leaves_seen, not_joining}
use Rattle.ld_laws.proofs.LawsUnmoved.{stages_of, no_turns_step, unstarted_step}
use Rattle.ld_run.proofs.SeatsOfChecks.{Each, each_then}
use Rattle.ld_laws.specs.JoiningLaws.{EnrolmentJoins, JoiningIsNotSeen, TellsOfPresent}
use Rattle.ld_laws.specs.TreeLaws.{ShowsSame}
use Rattle.ld_laws.proofs.SameTrees.{tree_same, open_same}

module _ (unit : Unit) (store : GlobalValues) (s : RunState) (moment : ℤ) (name : List ℕ) where
  abbrev before : Seen
  before = seen_in unit s

  abbrev after : Seen
  after = seen_in unit (joined unit store s moment name)

  -- Who is seen as a member: of a role that there is, who is one by what is held.
  member_in : (t : RunState) (role p : ℕ) → is_member (seen_in unit t) role p
      ≡ (nat_lt role (length (role_bounds unit)) && is_member_in unit t.persons role p)
  unfolding cell_of
  member_in t role p = by (nat_lt role (length (role_bounds unit))) (nat_lt p (length t.persons)) refl
    where
      by : (a b : Bool) → nat_lt p (length t.persons) ≡ b
          → says_yes (provided (a && b) (truth_datum (is_member_in unit t.persons role p)))
          ≡ (a && is_member_in unit t.persons role p)
      by false b is = refl
      by true true is = refl
      by true false past =
          sym (ap (is_some_and (λ person. is_member_by (role_bounds unit) person role))
          (slice_get_past t.persons p (ltb-false p (length t.persons) past)))

  seen_member : (role p : ℕ) → is_member after role p ≡ is_member before role p
  seen_member role p =
      member_in (joined unit store s moment name) role p
      ∙ ap (λ b. nat_lt role (length (role_bounds unit)) && b) (joining_leaves_member unit store s moment name role p)
      ∙ sym (member_in s role p)

  -- The newcomer is none of the members.
  not_new : (role : ℕ) → is_member before role (length s.persons) ≡ false
  not_new role =
      member_in s role (length s.persons)
      ∙ ap (λ b. nat_lt role (length (role_bounds unit)) && b) (past s.persons)
      ∙ none (nat_lt role (length (role_bounds unit)))
    where
      past : (persons : Persons) → is_member_among (role_bounds unit) persons role (length persons) ≡ false
      past [] = refl
      past (one ∷ persons) = past persons

      none : (a : Bool) → (a && false) ≡ false
      none true = refl
      none false = refl

  filter_same : (test other : ℕ → Bool) (xs : List ℕ) → ((x : ℕ) → test x ≡ other x) → filter test xs ≡ filter other xs
  filter_same test other [] same = refl
  filter_same test other (x ∷ xs) same = ap₂ (λ b ys. cond b (x ∷ ys) ys) (same x) (filter_same test other xs same)

  filter_last : (test : ℕ → Bool) (xs : List ℕ) (x : ℕ) → test x ≡ false → filter test (xs ++ x ∷ []) ≡ filter test xs
  filter_last test [] x none = ap (λ b. cond b (x ∷ []) []) none
  filter_last test (y ∷ ys) x none = ap (λ zs. cond (test y) (y ∷ zs) zs) (filter_last test ys x none)

  -- The members of each role are those that were.
  pub joining_leaves_members : (role : ℕ) → members after role ≡ members before role
  joining_leaves_members role =
      filter_same (is_member after role) (is_member before role) (everyone after) (seen_member role)
      ∙ ap (λ n. filter (is_member before role) (numbers_below n)) (length-append s.persons (newcomer name ∷ []))
      ∙ ap (filter (is_member before role)) (below_more (length s.persons))
      ∙ filter_last (is_member before role) (everyone before) (length s.persons) (not_new role)

  -- ---- what is shown

  -- What is done for a person that the run has, or for the run, is what was.
  seen_done : (owner : Owner) (id : List ℕ) → HasOwner s owner → is_done unit after owner id ≡ is_done unit before owner id
  seen_done owner id has =
      same_if (λ n. says_yes (after.value (mark_for unit owner n))) (λ n. says_yes (before.value (mark_for unit owner n))) (completing_number unit id)
      (λ n is. by n (slice_get (rules_of unit) n))
    where
      by_kind : (n : ℕ) (kind : RuleKind) → says_yes (after.value (mark_cell n (mark_owner kind owner))) ≡ says_yes (before.value (mark_cell n (mark_owner kind owner)))
      by_kind n OfPerson = ap says_yes (joining_leaves_seen unit store s moment name (mark_cell n owner) (not_joining s owner has) refl)
      by_kind n OfRun = ap says_yes (joining_leaves_seen unit store s moment name (mark_cell n Run) refl refl)

      by : (n : ℕ) (found : Option Rule)
          → says_yes (after.value (mark_cell n (option_map_or (λ rule. mark_owner (kind_of rule) owner) found Run)))
          ≡ says_yes (before.value (mark_cell n (option_map_or (λ rule. mark_owner (kind_of rule) owner) found Run)))
      by n None = by_kind n OfRun
      by n (Some rule) = by_kind n (kind_of rule)

  seen_act : (thing : ℕ) → after.value (act_opened_cell thing) ≡ before.value (act_opened_cell thing)
  seen_act thing = joining_leaves_seen unit store s moment name (act_opened_cell thing) refl refl

  shows_same : (p : ℕ) → p < length s.persons → ShowsSame unit after before p
  shows_same p below = record {
    visible = λ id. same_if (λ thing. says_yes (after.value (visibility_cell thing p))) (λ thing. says_yes (before.value (visibility_cell thing p))) (thing_number unit id)
        (λ thing is. ap says_yes (joining_leaves_seen unit store s moment name (visibility_cell thing p) (not_joining s (of_person p) below) refl));
    completed = λ id. seen_done (of_person p) id below;
    entered = λ id. same_if (λ thing. is_some (after.value (act_opened_cell thing))) (λ thing. is_some (before.value (act_opened_cell thing))) (thing_number unit id)
        (λ thing is. ap is_some (seen_act thing));
    member = λ role. same_if (λ r. is_member after r p) (λ r. is_member before r p) (role_number unit role) (λ r is. seen_member r p);
  }

  -- The tree of each person that the run has is what it was,
  pub joining_leaves_tree : (p : ℕ) → p < length s.persons → tree_lines unit after p ≡ tree_lines unit before p
  joining_leaves_tree p below = tree_same unit after before p (shows_same p below)

  -- and so is what is open for the person.
  pub joining_leaves_open : (p thing : ℕ) → p < length s.persons → is_open unit after p thing ≡ is_open unit before p thing
  joining_leaves_open p thing below = open_same unit after before p (shows_same p below) thing

  -- ---- the report

  each_same : {A : Type 0} {f g : A → List WordLine} (xs : List A) → ((x : A) → f x ≡ g x) → flat_map f xs ≡ flat_map g xs
  each_same xs each = λ i. flat_map (fun_ext each i) xs

  opening_same : (act : Act) → opening_of unit after act ≡ opening_of unit before act
  opening_same act = by (thing_number unit act.identifier)
    where
      by : (o : Option ℕ) → (option_map act_opened_cell o >>= after.value) ≡ (option_map act_opened_cell o >>= before.value)
      by None = refl
      by (Some thing) = seen_act thing

  part_reported : (act : Act) (part : RolePart) → report_of_part unit after act part ≡ report_of_part unit before act part
  part_reported act part = λ i.
      codes "part" ∷ part.identifier ∷ progress_word (seen_done Run part.identifier tt i) (is_some (opening_same act i)) ∷ []

  act_reported : (act : Act) → report_of_act unit after act ≡ report_of_act unit before act
  act_reported act = λ i.
      (codes "act" ∷ act.identifier ∷ progress_word (seen_done Run act.identifier tt i) (is_some (opening_same act i)) ∷ moment_word (opening_same act i))
      ∷ each_same act.role_parts (λ part. λ j. part_reported act part j ∷ []) i

  play_reported : (play : Play) → report_of_play unit after play ≡ report_of_play unit before play
  play_reported play = λ i.
      (codes "play" ∷ play.identifier ∷ done_or_open (seen_done Run play.identifier tt i) ∷ []) ∷ each_same play.acts act_reported i

  roles_reported : (n : ℕ) (roles : List RoleRow) → each_numbered_from (report_of_role after) n roles ≡ each_numbered_from (report_of_role before) n roles
  roles_reported n [] = refl
  roles_reported n (role ∷ roles) = λ i.
      ((codes "role" ∷ role.identifier ∷ (codes "members=" ++ decimal (length (joining_leaves_members n i))) ∷ []) ∷ []) ++ roles_reported (n + 1) roles i

  -- The report is what it was.
  pub joining_leaves_report : report_lines unit (joined unit store s moment name) ≡ report_lines unit s
  joining_leaves_report = λ i.
      (codes "started" ∷ moment_word (joining_leaves unit store s moment name Started refl i))
      ∷ (roles_reported 0 (roles_of unit) i
      ++ (each_same unit.method.plays play_reported i
      ++ (codes "unit" ∷ unit.identifier ∷ done_or_open (seen_done Run unit.identifier tt i) ∷ [])
      ∷ (codes "notices" ∷ decimal (length s.outbox) ∷ []) ∷ []))

  -- ---- what is told

  -- Whatever a command tells of the run or of a person that it has is told as before the newcomer joined.
  pub joining_tells_same : (command : Admitted) → TellsOfPresent s command
      → answer_told unit (joined unit store s moment name) command ≡ answer_told unit s command
  joining_tells_same (gets cell) others = ap (λ value. codes " value=" ++ printed_value value) (joining_leaves unit store s moment name cell others)
  joining_tells_same (shows_tree p) below = ap (λ lines. counted_lines (map line_text lines)) (joining_leaves_tree p below)
  joining_tells_same (shows_outbox p) others = refl
  joining_tells_same reports others = ap (λ lines. counted_lines (map spaced lines)) joining_leaves_report
  joining_tells_same (enrols _) others = refl
  joining_tells_same (assigns _ _) others = refl
  joining_tells_same (drops _ _) others = refl
  joining_tells_same starts others = refl
  joining_tells_same (opens _ _) others = refl
  joining_tells_same (completes _ _) others = refl
  joining_tells_same (sets _ _) others = refl
  joining_tells_same (clears _) others = refl
  joining_tells_same ticks others = refl
  joining_tells_same shows_next others = absurd others

-- ---- an enrolment

admits_enrolment : (unit : Unit) (s : RunState) (moment : ℤ) (name : List ℕ) → Each (λ (command : Admitted). command ≡ enrols name) (admitted unit s moment (Enrol name))
unfolding admitted
admits_enrolment unit s moment name =
    let P = λ (command : Admitted). command ≡ enrols name in
    each_then P (in_time s moment) _ (each_then P (not_enrolled s name) _ (each_then P (has_seat s) _ refl))

is_enrolment : (unit : Unit) (s : RunState) (store : GlobalValues) (moment : ℤ) (name : List ℕ) (d : DoneCommand)
    → run_step unit s store moment (Enrol name) ≡ Ok d → d.command ≡ enrols name
is_enrolment unit s store moment name d is =
    subst (Each (λ (command : Admitted). command ≡ enrols name)) (stages_of unit s store moment (Enrol name) d is).checked (admits_enrolment unit s moment name)

-- An enrolment that is done in a run which is not started keeps the moment, takes in the store's values and lets
-- the person join, and does nothing else.
pub enrolment_joins : (unit : Unit) (s : RunState) (store : GlobalValues) (moment : ℤ) (name : List ℕ) (d : DoneCommand)
    → run_step unit s store moment (Enrol name) ≡ Ok d → is_started d.state ≡ false
    → d.state ≡ joined unit store (begun unit store s moment) moment name
enrolment_joins unit s store moment name d is still =
    unstarted_step unit s store moment (Enrol name) d is still
    ∙ ap (directly_changed unit store (begun unit store s moment) moment) (is_enrolment unit s store moment name d is)

-- So does one that tells of no turns, in a run that is started too.
pub quiet_enrolment_joins : (unit : Unit) (s : RunState) (store : GlobalValues) (moment : ℤ) (name : List ℕ) (d : DoneCommand)
    → run_step unit s store moment (Enrol name) ≡ Ok d → d.turns ≡ 0
    → d.state ≡ joined unit store (begun unit store s moment) moment name
quiet_enrolment_joins unit s store moment name d is none =
    no_turns_step unit s store moment (Enrol name) d is none
    ∙ ap (directly_changed unit store (begun unit store s moment) moment) (is_enrolment unit s store moment name d is)

-- ---- the laws

pub joining_is_not_seen : JoiningIsNotSeen
joining_is_not_seen unit store s moment name =
    (joining_tells_same unit store s moment name, joining_leaves_members unit store s moment name)

pub enrolment_joins_alone : EnrolmentJoins
enrolment_joins_alone unit s store moment name d is =
    (enrolment_joins unit s store moment name d is, quiet_enrolment_joins unit s store moment name d is)
