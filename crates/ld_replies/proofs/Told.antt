-- What all lines together make of a text, and how a report is put together.
use Rattle.std.proofs.Common.{◌≡◌, ℕ, suc, ◌+◌, ◌<◌, List, [], ◌∷◌, ◌++◌, filter, fold, length, map, Bool, true, false, ◌&&◌, cond, nat_lt, slice_get, refl, sym, ap, ap₂, ◌∙◌, append_assoc, arith, codes, decimal, flat_map}
use Rattle.std.proofs.lemmas.Bool.{lt-ltb, ltb-false}
use Rattle.std.proofs.lemmas.List.{append-nil, length-map}
use Rattle.std.proofs.lemmas.List.Sums.{fold-append, length-filter}
use Rattle.std.proofs.lemmas.Option.{slice_get_past}
use Rattle.std.specs.List.{range_with_len}
use Rattle.ld_base.specs.Maybe.{provided}
use Rattle.ld_value.specs.Datum.{truth_datum}
use Rattle.ld_model.specs.Counting.{each_numbered, each_numbered_from}
use Rattle.ld_model.specs.RoleRows.{RoleRow}
use Rattle.ld_model.specs.Roles.{roles_of}
use Rattle.ld_model.specs.declared.cell.CellName.TheVariants.{Started}
use Rattle.ld_model.specs.declared.cell.Owner.TheVariants.{Run}
use Rattle.ld_model.specs.declared.unit.Unit.{Unit}
use Rattle.ld_expr.specs.Lookup.{is_some_and}
use Rattle.ld_expr.specs.Membership.{is_member, members}
use Rattle.ld_expr.specs.Done.{is_done}
use Rattle.ld_expr.specs.Seen.{Seen, says_yes}
use Rattle.ld_roles.specs.Kept.{persons_of}
use Rattle.ld_roles.specs.Membership.{is_member_by, member_count}
use Rattle.ld_roles.specs.Persons.{PersonState, Persons}
use Rattle.ld_roles.specs.RoleBounds.{RoleBounds, bounds_of, role_bounds}
use Rattle.ld_roles.specs.Roster.{is_member_in}
use Rattle.ld_state.specs.RunState.{RunState, cell_of, seen_in}
use Rattle.ld_state.specs.StateView.{StateView, IsStateOf, run_of, seen_of}
use Rattle.ld_tree.specs.Lines.{lines_text, spaced}
use Rattle.ld_tree.specs.Telling.{Printed}
use Rattle.ld_replies.specs.Printed.{printed_after}
use Rattle.ld_replies.specs.Replies.{counted_lines}
use Rattle.ld_replies.specs.Reports.{WordLine, done_or_open, moment_word, report_lines, report_of_play, report_of_role}
use Rattle.ld_replies.specs.RoleLines.{role_line}
use Rattle.ld_state.proofs.SeenSame.{seen_same}

told_bytes : (before : Printed) (lines : List WordLine)
    → (fold printed_after before lines).bytes ≡ before.bytes ++ lines_text (map spaced lines)
told_bytes before [] = sym (append-nil before.bytes)
told_bytes before (line ∷ lines) =
    told_bytes (printed_after before line) lines
    ∙ append_assoc before.bytes (10 ∷ spaced line) (lines_text (map spaced lines))

told_count : (before : Printed) (lines : List WordLine)
    → (fold printed_after before lines).count ≡ before.count + length lines
told_count before [] = omega arith
told_count before (line ∷ lines) = let more = told_count (printed_after before line) lines in omega (arith, more)

-- What is printed of lines, where nothing is before them.
pub counted_told : (empty printed : Printed) (lines : List WordLine) → empty ≡ record { bytes = []; count = 0 }
    → printed ≡ fold printed_after empty lines
    → codes " lines=" ++ (decimal printed.count ++ printed.bytes) ≡ counted_lines (map spaced lines)
counted_told empty printed lines none is =
    let all : printed ≡ fold printed_after (record { bytes = []; count = 0 }) lines = is ∙ ap (λ (p : Printed). fold printed_after p lines) none in
    let text : printed.bytes ≡ lines_text (map spaced lines) = ap (λ (p : Printed). p.bytes) all ∙ told_bytes (record { bytes = []; count = 0 }) lines in
    let counted = told_count (record { bytes = []; count = 0 }) lines in
    let number : printed.count ≡ length (map spaced lines) = ap (λ (p : Printed). p.count) all ∙ omega (arith, counted, length-map lines spaced) in
    ap₂ (λ n t. codes " lines=" ++ (decimal n ++ t)) number text

-- ---- the members of roles

counted_alike : {A B : Type 0} → (b : Bool) (x : A) (xs : List A) (y : B) (ys : List B) → length xs ≡ length ys
    → length (cond b (x ∷ xs) xs) ≡ length (cond b (y ∷ ys) ys)
counted_alike true x xs y ys same = ap suc same
counted_alike false x xs y ys same = same

members_from : (is_one : ℕ → Bool) (test : PersonState → Bool) (n : ℕ) (persons : Persons)
    → ((k : ℕ) → is_one (n + k) ≡ is_some_and test (slice_get persons k))
    → length (filter is_one (range_with_len n (length persons))) ≡ length (filter test persons)
members_from is_one test n [] same = refl
members_from is_one test n (person ∷ persons) same =
    let numbers = filter is_one (range_with_len (n + 1) (length persons)) in
    let first : is_one n ≡ test person = ap is_one (omega arith) ∙ same 0 in
    let rest = members_from is_one test (n + 1) persons (λ k. ap is_one (omega arith) ∙ same (suc k)) in
    ap (λ b. length (cond b (n ∷ numbers) numbers)) first
    ∙ counted_alike (test person) n numbers person (filter test persons) rest

module _ (unit : Unit) (s : RunState) (role : ℕ) (below : role < length (role_bounds unit)) where
  -- Who is seen as a member of a role that there is is one by what is kept; a person that there is not is none.
  member_seen : (k : ℕ) → is_member (seen_in unit s) role k ≡ is_member_in unit s.persons role k
  unfolding cell_of
  member_seen k =
      ap (λ b. says_yes (provided (b && nat_lt k (length s.persons)) (truth_datum (is_member_in unit s.persons role k))))
      (lt-ltb role (length (role_bounds unit)) below)
      ∙ by (nat_lt k (length s.persons)) refl
    where
      by : (b : Bool) → nat_lt k (length s.persons) ≡ b
          → says_yes (provided b (truth_datum (is_member_in unit s.persons role k))) ≡ is_member_in unit s.persons role k
      by true there = refl
      by false past =
          sym (ap (is_some_and (λ person. is_member_by (role_bounds unit) person role))
          (slice_get_past s.persons k (ltb-false k (length s.persons) past)))

  members_counted : member_count (role_bounds unit) s.persons role ≡ length (members (seen_in unit s) role)
  members_counted =
      let test : PersonState → Bool = λ person. is_member_by (role_bounds unit) person role in
      sym (length-filter test s.persons)
      ∙ sym (members_from (is_member (seen_in unit s) role) test 0 s.persons
      (λ k. ap (is_member (seen_in unit s) role) (omega arith) ∙ member_seen k))

role_lines_from : (roles : List RoleBounds) (persons : Persons) (seen : Seen) (n : ℕ) (rows : List RoleRow)
    → ((role : ℕ) → role < n + length rows → member_count roles persons role ≡ length (members seen role))
    → each_numbered_from (role_line roles persons) n (map (λ row. row.identifier) rows)
    ≡ each_numbered_from (report_of_role seen) n rows
role_lines_from roles persons seen n [] same = refl
role_lines_from roles persons seen n (row ∷ rows) same =
    ap₂ (λ count (more : List WordLine). (codes "role" ∷ row.identifier ∷ (codes "members=" ++ decimal count) ∷ []) ∷ more)
    (same n (omega arith)) (role_lines_from roles persons seen (n + 1) rows (λ role within. same role (omega (arith, within))))

-- The lines of roles by what is kept are those by what is seen.
pub role_lines_same : (unit : Unit) (s : RunState) (rows : List RoleRow) → length rows ≡ length (role_bounds unit)
    → each_numbered (role_line (role_bounds unit) s.persons) (map (λ row. row.identifier) rows)
    ≡ each_numbered (report_of_role (seen_in unit s)) rows
role_lines_same unit s rows all =
    role_lines_from (role_bounds unit) s.persons (seen_in unit s) 0 rows
    (λ role within. members_counted unit s role (omega (arith, within, all)))

-- ---- a report

all_told : (before : Printed) (start : WordLine) (roles plays : List WordLine) (whole sent : WordLine)
    → fold printed_after before (start ∷ (roles ++ (plays ++ whole ∷ sent ∷ [])))
    ≡ printed_after (printed_after (fold printed_after (fold printed_after (printed_after before start) roles) plays) whole) sent
all_told before start roles plays whole sent =
    fold-append printed_after (printed_after before start) roles (plays ++ whole ∷ sent ∷ [])
    ∙ fold-append printed_after (fold printed_after (printed_after before start) roles) plays (whole ∷ sent ∷ [])

-- The line that tells whether the unit is done.
abbrev pub unit_line : Unit → Seen → WordLine
unit_line unit seen = codes "unit" ∷ unit.identifier ∷ done_or_open (is_done unit seen Run unit.identifier) ∷ []

-- What is printed after each part of a report, from its first line to its last.
pub record Stages (unit : Unit) (s : StateView) (before last : Printed) : Type 0 where
  pub started : Printed
  pub with_roles : Printed
  pub with_plays : Printed
  pub with_unit : Printed
  pub start : started ≡ printed_after before (codes "started" ∷ moment_word ((seen_of s).value Started))
  pub roles : with_roles ≡ fold printed_after started (each_numbered (role_line s.roles (persons_of s.rows)) (map (λ row. row.identifier) (roles_of unit)))
  pub plays : with_plays ≡ fold printed_after with_roles (flat_map (report_of_play unit (seen_of s)) unit.method.plays)
  pub whole : with_unit ≡ printed_after with_plays (unit_line unit (seen_of s))
  pub sent : last ≡ printed_after with_unit (codes "notices" ∷ decimal (length s.outbox) ∷ [])

pub report_told : (unit : Unit) (s : StateView) (before last : Printed) → IsStateOf unit s
    → Stages unit s before last → last ≡ fold printed_after before (report_lines unit (run_of s))
report_told unit s before last own stages =
    let start = codes "started" ∷ moment_word ((seen_of s).value Started) in
    let roles = each_numbered (role_line s.roles (persons_of s.rows)) (map (λ (row : RoleRow). row.identifier) (roles_of unit)) in
    let seen = seen_of s in
    let plays = flat_map (report_of_play unit seen) unit.method.plays in
    let sent = codes "notices" ∷ decimal (length s.outbox) ∷ [] in
    let same : roles ≡ each_numbered (report_of_role (seen_in unit (run_of s))) (roles_of unit) =
    ap (λ bounds. each_numbered (role_line bounds (persons_of s.rows)) (map (λ (row : RoleRow). row.identifier) (roles_of unit))) own.roles
    ∙ role_lines_same unit (run_of s) (roles_of unit) (sym (length-map (roles_of unit) bounds_of)) in
    stages.sent
    ∙ ap (λ p. printed_after p sent) (stages.whole
    ∙ ap (λ p. printed_after p (unit_line unit seen)) (stages.plays
    ∙ ap (λ p. fold printed_after p plays) (stages.roles
    ∙ ap (λ p. fold printed_after p roles) stages.start)))
    ∙ sym (all_told before start roles plays (unit_line unit seen) sent)
    ∙ ap₂ (λ some one. fold printed_after before (start ∷ (some ++ (flat_map (report_of_play unit one) unit.method.plays ++ unit_line unit one ∷ sent ∷ []))))
    same (seen_same unit s own)
