-- That no rule looks at what persons see of things.
use Rattle.std.proofs.Common.{◌≡◌, refl, sym, ap, ◌∙◌, ℕ, zero, suc, inl, inr, List, [], ◌∷◌, ◌++◌, map, flat_map, slice_get, Option, Some, None, Bool, true, false, is_some, if◌then◌else◌}
use Rattle.std.proofs.lemmas.Bool.{false≢true}
use Rattle.std.specs.List.{list_any}
use Rattle.std.specs.Option.{option_map}
use Rattle.ld_base.specs.Maybe.{◌>>=◌}
use Rattle.ld_model.specs.Cells.{same_cell}
use Rattle.ld_model.specs.Expressions.{TermOf, TermsOf, property_term, literal_term, list_term, pair_term, now_term, opened_term, started_term, no_term, term_and, TestOf, TestsOf, compare_test, all_test, any_test, not_test, no_value_test, member_test, users_test, done_test, no_test, test_and}
use Rattle.ld_model.specs.declared.activity.Activity.{Activity}
use Rattle.ld_model.specs.declared.activity.Structure.{Structure}
use Rattle.ld_model.specs.declared.cell.CellName.{CellName}
use Rattle.ld_model.specs.declared.cell.CellName.TheVariants.{Prop, Vis, Member, Chosen, Opened, ActOpened, Started, Mark, Now, Roster}
use Rattle.ld_model.specs.declared.cell.Owner.{Owner}
use Rattle.ld_model.specs.declared.cell.Owner.TheVariants.{Run, Person}
use Rattle.ld_model.specs.declared.completion.Completion.{Completion}
use Rattle.ld_model.specs.declared.completion.Completion.TheVariants.{UserChoice, TimeLimit, WhenPropertyValueIsSet, WhenRolePartCompleted, WhenConditionTrue, WhenLastActCompleted, WhenPlayCompleted}
use Rattle.ld_model.specs.declared.condition.Condition.{Condition}
use Rattle.ld_model.specs.declared.method.Act.{Act}
use Rattle.ld_model.specs.declared.method.RolePart.{RolePart}
use Rattle.ld_model.specs.declared.property.Property.{Property}
use Rattle.ld_model.specs.declared.unit.Unit.{Unit}
use Rattle.ld_names.specs.Holders.{holder_of}
use Rattle.ld_names.specs.Names.{role_number, thing_number}
use Rattle.ld_names.specs.declared.rule.Rule.{Rule}
use Rattle.ld_names.specs.declared.rule.Rule.TheVariants.{CompletesActivity, CompletesStructure, OpensAct, CompletesPart, CompletesAct, CompletesPlay, CompletesUnit, JudgesCondition}
use Rattle.ld_refs.specs.Extents.{play_at, act_at, role_part_at}
use Rattle.ld_expr.specs.Done.{mark_for}
use Rattle.ld_expr.specs.Looks.{property_looks, done_looks, member_looks, members_looks, term_looks, terms_looks, test_looks, tests_looks}
use Rattle.ld_expr.specs.Lookup.{list_from, completing_number, environment_named, property_number}
use Rattle.ld_expr.specs.Membership.{members_of}
use Rattle.ld_expr.specs.Owners.{of_person, value_owner}
use Rattle.ld_expr.specs.Seen.{Seen, everyone, member_cell, chosen_cell, opened_cell, act_opened_cell, property_cell, visibility_cell}
use Rattle.ld_rules.specs.SiteLooks.{cell_list, all_done_looks, completion_looks, completion_looks_if, reaching_roles, site_activity_looks, site_target_looks, site_part_looks, site_act_looks, opening_looks, person_looks, run_looks, rule_looks}
use Rattle.ld_rules.specs.SiteTests.{Completing, activity_completing, opening_cell, act_completing, play_completing, unit_completing}
use Rattle.ld_state.proofs.Elements.{IsIn, in_either, from_map, from_flat_map}

-- What a person sees of a thing.
abbrev is_shown : CellName → Bool
is_shown (Vis _ _) = true
is_shown _ = false

abbrev Unshown : List CellName → Type 0
Unshown cells = (c : CellName) → IsIn cells c → is_shown c ≡ false

none : Unshown []
none c there = absurd there

one : (x : CellName) → is_shown x ≡ false → Unshown (x ∷ [])
one x is c (inl same) = ap is_shown (sym same) ∙ is
one x is c (inr later) = absurd later

both : (xs ys : List CellName) → Unshown xs → Unshown ys → Unshown (xs ++ ys)
both xs ys first second c there = elim (in_either xs ys c there) [ inl early ↦ first c early | inr late ↦ second c late ]

each_of : {A : Type 0} → (f : A → List CellName) (o : Option A) → ((x : A) → Unshown (f x)) → Unshown (list_from f o)
each_of f None each c there = absurd there
each_of f (Some x) each c there = each x c there

all_of : {A : Type 0} → (f : A → List CellName) (xs : List A) → ((x : A) → Unshown (f x)) → Unshown (flat_map f xs)
all_of f xs each c there = let by = from_flat_map f xs c there in each by.element c by.gives

mapped : (f : ℕ → CellName) (xs : List ℕ) → ((x : ℕ) → is_shown (f x) ≡ false) → Unshown (map f xs)
mapped f xs each c there = let by = from_map f xs c there in ap is_shown (sym by.is) ∙ each by.element

by_number : (f : ℕ → CellName) (o : Option ℕ) → ((n : ℕ) → is_shown (f n) ≡ false) → Unshown (cell_list (option_map f o))
by_number f None each c there = absurd there
by_number f (Some n) each c there = one (f n) (each n) c there

module _ (unit : Unit) (seen : Seen) where
  of_property : (owner : Owner) (id : List ℕ) → Unshown (property_looks unit seen owner id)
  of_property owner id = by (property_number unit id)
    where
      at : (n : ℕ) (found : Option Property)
          → Unshown (list_from (λ cell. cell ∷ []) (found >>= λ property. Some (property_cell n (value_owner (holder_of unit property) owner))))
      at n None c there = absurd there
      at n (Some property) c there = one (property_cell n (value_owner (holder_of unit property) owner)) refl c there

      by : (number : Option ℕ)
          → Unshown (list_from (λ cell. cell ∷ []) (number >>= λ n. slice_get unit.properties n >>= λ property. Some (property_cell n (value_owner (holder_of unit property) owner))))
      by None c there = absurd there
      by (Some n) c there = at n (slice_get unit.properties n) c there

  of_done : (owner : Owner) (id : List ℕ) → Unshown (done_looks unit seen owner id)
  of_done owner id =
      each_of (λ number. mark_for unit owner number ∷ []) (completing_number unit id) (λ n. one (mark_for unit owner n) refl)

  of_all_done : (owner : Owner) (ids : List (List ℕ)) → Unshown (all_done_looks unit seen owner ids)
  of_all_done owner ids = all_of (done_looks unit seen owner) ids (of_done owner)

  of_member : (owner : Owner) (role : List ℕ) → Unshown (member_looks unit seen owner role)
  of_member Run role = none
  of_member (Person p) role =
      each_of (λ r. member_cell r p.0 ∷ []) (role_number unit role) (λ r. one (member_cell r p.0) refl)

  of_members : (role : List ℕ) → Unshown (members_looks unit seen role)
  of_members role c (inl same) = ap is_shown (sym same)
  of_members role c (inr later) =
      each_of (λ r. map (member_cell r) (everyone seen)) (role_number unit role) (λ r. mapped (member_cell r) (everyone seen) (λ p. refl)) c later

  mutual
    of_term : (owner : Owner) (term : TermOf) → Unshown (term_looks unit seen owner term)
    of_term owner (property_term id) = of_property owner id
    of_term owner (literal_term kind text) = none
    of_term owner (list_term operator terms) = of_terms owner terms
    of_term owner (pair_term operator x y) = both (term_looks unit seen owner x) (term_looks unit seen owner y) (of_term owner x) (of_term owner y)
    of_term owner now_term = one Now refl
    of_term owner (opened_term id) =
        each_of (λ thing. opened_cell thing owner ∷ []) (thing_number unit id) (λ thing. one (opened_cell thing owner) refl)
    of_term owner started_term = one Started refl

    of_terms : (owner : Owner) (terms : TermsOf) → Unshown (terms_looks unit seen owner terms)
    of_terms owner no_term = none
    of_terms owner (term_and x terms) = both (term_looks unit seen owner x) (terms_looks unit seen owner terms) (of_term owner x) (of_terms owner terms)

  mutual
    of_test : (owner : Owner) (test : TestOf) → Unshown (test_looks unit seen owner test)
    of_test owner (compare_test comparison x y) = both (term_looks unit seen owner x) (term_looks unit seen owner y) (of_term owner x) (of_term owner y)
    of_test owner (all_test tests) = of_tests owner tests
    of_test owner (any_test tests) = of_tests owner tests
    of_test owner (not_test test) = of_test owner test
    of_test owner (no_value_test property) = of_property owner property
    of_test owner (member_test role) = of_member owner role
    of_test owner (users_test role test) =
        both (members_looks unit seen role) (flat_map (λ p. test_looks unit seen (of_person p) test) (members_of unit seen role))
        (of_members role)
        (all_of (λ p. test_looks unit seen (of_person p) test) (members_of unit seen role) (λ p. of_test (of_person p) test))
    of_test owner (done_test thing) = of_done owner thing

    of_tests : (owner : Owner) (tests : TestsOf) → Unshown (tests_looks unit seen owner tests)
    of_tests owner no_test = none
    of_tests owner (test_and test tests) =
        both (test_looks unit seen owner test) (tests_looks unit seen owner tests) (of_test owner test) (of_tests owner tests)

  -- What is to be completed is chosen and begins by no such cell.
  record IsPlain (c : Completing) : Type 0 where
    chosen : Unshown (cell_list c.chosen)
    start : Unshown (cell_list c.start)

  of_completion : (c : Completing) (completion : Completion) → IsPlain c → Unshown (completion_looks unit seen c completion)
  of_completion c UserChoice plain = plain.chosen
  of_completion c (TimeLimit seconds) plain = both (cell_list c.start) (Now ∷ []) plain.start (one Now refl)
  of_completion c (WhenPropertyValueIsSet property text) plain = of_property c.owner property
  of_completion c (WhenRolePartCompleted parts) plain = of_all_done Run parts
  of_completion c (WhenConditionTrue role test) plain = of_test Run (users_test role test)
  of_completion c WhenLastActCompleted plain = each_of (done_looks unit seen Run) c.last_act (of_done Run)
  of_completion c (WhenPlayCompleted plays) plain = of_all_done Run plays

  of_completion_if : (c : Completing) (completion : Option Completion) → IsPlain c → Unshown (completion_looks_if unit seen c completion)
  of_completion_if c completion plain = each_of (completion_looks unit seen c) completion (λ found. of_completion c found plain)

  of_opening_cell : (act : Act) → Unshown (cell_list (opening_cell unit act))
  of_opening_cell act = by_number act_opened_cell (thing_number unit act.identifier) (λ t. refl)

  of_activity : (p : ℕ) (activity : Activity) → Unshown (site_activity_looks unit seen p activity)
  of_activity p activity =
      let roles = reaching_roles unit activity.identifier in
      both (map (λ r. member_cell r p) roles) (completion_looks_if unit seen (activity_completing unit p activity) activity.complete)
      (mapped (λ r. member_cell r p) roles (λ r. refl))
      (of_completion_if (activity_completing unit p activity) activity.complete (record {
        chosen = by_number (λ t. chosen_cell t p) (thing_number unit activity.identifier) (λ t. refl);
        start = by_number (λ t. opened_cell t (of_person p)) (thing_number unit activity.identifier) (λ t. refl);
      }))

  of_target : (part : RolePart) → Unshown (site_target_looks unit seen part)
  of_target part = by (is_some (environment_named unit part.target))
    where
      by : (nothing : Bool)
          → Unshown (if nothing then [] else flat_map (λ p. done_looks unit seen (of_person p) part.target) (members_of unit seen part.role))
      by true = none
      by false = all_of (λ p. done_looks unit seen (of_person p) part.target) (members_of unit seen part.role) (λ p. of_done (of_person p) part.target)

  of_part : (act : Act) (part : RolePart) → Unshown (site_part_looks unit seen act part)
  of_part act part =
      both (cell_list (opening_cell unit act)) (members_looks unit seen part.role ++ site_target_looks unit seen part) (of_opening_cell act)
      (both (members_looks unit seen part.role) (site_target_looks unit seen part) (of_members part.role) (of_target part))

  of_act : (act : Act) → Unshown (site_act_looks unit seen act)
  of_act act =
      both (cell_list (opening_cell unit act)) (completion_looks_if unit seen (act_completing unit act) act.complete) (of_opening_cell act)
      (of_completion_if (act_completing unit act) act.complete (record { chosen = none; start = of_opening_cell act }))

  of_opening : (p a : ℕ) → Unshown (opening_looks unit seen p a)
  of_opening p zero = none
  of_opening p (suc a) = each_of (λ act. done_looks unit seen Run act.identifier) (act_at unit p a) (λ act. of_done Run act.identifier)

  of_person_rule : (p : ℕ) (rule : Rule) → Unshown (person_looks unit seen p rule)
  of_person_rule p (CompletesActivity a) = each_of (site_activity_looks unit seen p) (slice_get unit.activities a) (of_activity p)
  of_person_rule p (CompletesStructure n) =
      each_of (λ (structure : Structure). all_done_looks unit seen (of_person p) structure.children) (slice_get unit.structures n)
      (λ structure. of_all_done (of_person p) structure.children)
  of_person_rule p (JudgesCondition n) =
      each_of (λ (condition : Condition). test_looks unit seen (of_person p) condition.test) (slice_get unit.conditions n)
      (λ condition. of_test (of_person p) condition.test)
  of_person_rule p (OpensAct _ _) = none
  of_person_rule p (CompletesPart _ _ _) = none
  of_person_rule p (CompletesAct _ _) = none
  of_person_rule p (CompletesPlay _) = none
  of_person_rule p CompletesUnit = none

  of_run_rule : (rule : Rule) → Unshown (run_looks unit seen rule)
  of_run_rule (OpensAct p a) = of_opening p a
  of_run_rule (CompletesPart p a r) =
      each_of (λ act. list_from (site_part_looks unit seen act) (role_part_at unit p a r)) (act_at unit p a)
      (λ act. each_of (site_part_looks unit seen act) (role_part_at unit p a r) (of_part act))
  of_run_rule (CompletesAct p a) = each_of (site_act_looks unit seen) (act_at unit p a) of_act
  of_run_rule (CompletesPlay p) =
      each_of (λ play. completion_looks_if unit seen (play_completing play) play.complete) (play_at unit p)
      (λ play. of_completion_if (play_completing play) play.complete (record { chosen = none; start = one Started refl }))
  of_run_rule CompletesUnit =
      of_completion_if unit_completing unit.method.complete (record { chosen = none; start = one Started refl })
  of_run_rule (CompletesActivity _) = none
  of_run_rule (CompletesStructure _) = none
  of_run_rule (JudgesCondition _) = none

  of_rule : (owner : Owner) (rule : Rule) → Unshown (rule_looks unit seen owner rule)
  of_rule (Person p) rule = of_person_rule p.0 rule
  of_rule Run rule = of_run_rule rule

-- So what a person sees of a thing is in no such list.
not_in : (cells : List CellName) (t p : ℕ) → Unshown cells → list_any (same_cell (visibility_cell t p)) cells ≡ false
not_in [] t p unshown = refl
not_in (x ∷ cells) t p unshown =
    rw (other x (unshown x (inl refl)), not_in cells t p (λ c later. unshown c (inr later))) refl
  where
    other : (x : CellName) → is_shown x ≡ false → same_cell (visibility_cell t p) x ≡ false
    other (Vis _ _) is = absurd (false≢true (sym is))
    other (Prop _ _) is = refl
    other (Member _ _) is = refl
    other (Chosen _ _) is = refl
    other (Opened _ _) is = refl
    other (ActOpened _) is = refl
    other Started is = refl
    other (Mark _ _) is = refl
    other Now is = refl
    other Roster is = refl

pub never_looked_at : (unit : Unit) (seen : Seen) (owner : Owner) (rule : Rule) (t p : ℕ)
    → list_any (same_cell (visibility_cell t p)) (rule_looks unit seen owner rule) ≡ false
never_looked_at unit seen owner rule t p = not_in (rule_looks unit seen owner rule) t p (of_rule unit seen owner rule)
