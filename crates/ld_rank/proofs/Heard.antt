-- That the test of a site asks of a mark only whether it says yes.
use Rattle.std.proofs.Common.{◌≡◌, refl, ap, ap₂, ℕ, zero, suc, List, ◌∷◌, slice_get, Option, Some, None, Bool, ◌&&◌, ◌||◌, not, is_none, is_some}
use Rattle.std.specs.Option.{option_map}
use Rattle.ld_base.specs.Maybe.{◌>>=◌}
use Rattle.ld_value.specs.Datum.{Datum, truth_datum, same_datum}
use Rattle.ld_model.specs.Expressions.{TermOf, TermsOf, property_term, literal_term, list_term, pair_term, now_term, opened_term, started_term, no_term, term_and, TestOf, TestsOf, compare_test, all_test, any_test, not_test, no_value_test, member_test, users_test, done_test, no_test, test_and}
use Rattle.ld_model.specs.declared.activity.Activity.{Activity}
use Rattle.ld_model.specs.declared.cell.CellName.{CellName}
use Rattle.ld_model.specs.declared.cell.CellName.TheVariants.{Prop, Vis, Member, Chosen, Opened, ActOpened, Started, Mark, Now, Roster}
use Rattle.ld_model.specs.declared.cell.Owner.{Owner}
use Rattle.ld_model.specs.declared.cell.Owner.TheVariants.{Run, Person}
use Rattle.ld_model.specs.declared.completion.Completion.{Completion}
use Rattle.ld_model.specs.declared.completion.Completion.TheVariants.{UserChoice, TimeLimit, WhenPropertyValueIsSet, WhenRolePartCompleted, WhenConditionTrue, WhenLastActCompleted, WhenPlayCompleted}
use Rattle.ld_model.specs.declared.method.Act.{Act}
use Rattle.ld_model.specs.declared.method.RolePart.{RolePart}
use Rattle.ld_model.specs.declared.property.Property.{Property}
use Rattle.ld_model.specs.declared.unit.Unit.{Unit}
use Rattle.ld_names.specs.Holders.{holder_of}
use Rattle.ld_names.specs.Names.{thing_number}
use Rattle.ld_names.specs.declared.rule.Rule.{Rule}
use Rattle.ld_names.specs.declared.rule.Rule.TheVariants.{CompletesActivity, CompletesStructure, OpensAct, CompletesPart, CompletesAct, CompletesPlay, CompletesUnit, JudgesCondition}
use Rattle.ld_refs.specs.Extents.{play_at, act_at, role_part_at}
use Rattle.ld_expr.specs.Arithmetic.{list_operation, pair_operation}
use Rattle.ld_expr.specs.Holding.{holds_in, all_hold, any_holds, both_compare, is_owner_in_role}
use Rattle.ld_expr.specs.Lookup.{is_some_and, property_number}
use Rattle.ld_expr.specs.Membership.{members_of, some_and_each}
use Rattle.ld_expr.specs.Owners.{of_person, value_owner}
use Rattle.ld_expr.specs.PropertyTests.{value_for, has_value}
use Rattle.ld_expr.specs.Seen.{Seen, says_yes, property_cell, opened_cell, act_opened_cell}
use Rattle.ld_expr.specs.Terms.{property_value, combined, combined_all, term_value, term_values}
use Rattle.ld_rules.specs.Reach.{is_mine}
use Rattle.ld_rules.specs.SiteTests.{Completing, has_passed, completion_holds, activity_completing, holds_or_absent, activity_test, opening_test, opening_of, part_test, target_is_done, act_completing, play_completing, unit_completing, rule_holds, act_test, play_test, condition_test, person_test, run_test, rule_test}
use Rattle.ld_rules.proofs.Alike.{same_each, same_if}

-- What of the value of a cell matters: of a mark, whether it says yes.
abbrev pub heard_value : CellName → Option Datum → Option Datum
heard_value (Mark _ _) value = Some (truth_datum (says_yes value))
heard_value (Prop _ _) value = value
heard_value (Vis _ _) value = value
heard_value (Member _ _) value = value
heard_value (Chosen _ _) value = value
heard_value (Opened _ _) value = value
heard_value (ActOpened _) value = value
heard_value Started value = value
heard_value Now value = value
heard_value Roster value = value

-- What is seen, of marks only whether they say yes.
abbrev pub heard : Seen → Seen
heard seen = record { persons = seen.persons; value = λ cell. heard_value cell (seen.value cell) }

heard_yes : (cell : CellName) (value : Option Datum) → says_yes (heard_value cell value) ≡ says_yes value
heard_yes (Mark _ _) value = refl
heard_yes (Prop _ _) value = refl
heard_yes (Vis _ _) value = refl
heard_yes (Member _ _) value = refl
heard_yes (Chosen _ _) value = refl
heard_yes (Opened _ _) value = refl
heard_yes (ActOpened _) value = refl
heard_yes Started value = refl
heard_yes Now value = refl
heard_yes Roster value = refl

module _ (unit : Unit) (seen : Seen) where
  -- ---- values

  heard_property : (owner : Owner) (id : List ℕ)
      → property_value unit (heard seen) owner id ≡ property_value unit seen owner id
  heard_property owner id = by (property_number unit id)
    where
      at : (n : ℕ) (found : Option Property)
          → ((found >>= λ property. Some (property_cell n (value_owner (holder_of unit property) owner))) >>= (heard seen).value) ≡ ((found >>= λ property. Some (property_cell n (value_owner (holder_of unit property) owner))) >>= seen.value)
      at n None = refl
      at n (Some property) = refl

      by : (number : Option ℕ)
          → ((number >>= λ n. slice_get unit.properties n >>= λ property. Some (property_cell n (value_owner (holder_of unit property) owner))) >>= (heard seen).value) ≡ ((number >>= λ n. slice_get unit.properties n >>= λ property. Some (property_cell n (value_owner (holder_of unit property) owner))) >>= seen.value)
      by None = refl
      by (Some n) = at n (slice_get unit.properties n)

  heard_opened : (owner : Owner) (thing : Option ℕ)
      → (thing >>= λ t. (heard seen).value (opened_cell t owner)) ≡ (thing >>= λ t. seen.value (opened_cell t owner))
  heard_opened owner None = refl
  heard_opened owner (Some t) = refl

  mutual
    heard_term : (owner : Owner) (term : TermOf) → term_value unit (heard seen) owner term ≡ term_value unit seen owner term
    heard_term owner (property_term id) = heard_property owner id
    heard_term owner (literal_term kind text) = refl
    heard_term owner (list_term operator terms) = ap (combined_all (list_operation operator)) (heard_terms owner terms)
    heard_term owner (pair_term operator x y) =
        ap₂ (combined (pair_operation operator)) (heard_term owner x) (heard_term owner y)
    heard_term owner now_term = refl
    heard_term owner (opened_term id) = heard_opened owner (thing_number unit id)
    heard_term owner started_term = refl

    heard_terms : (owner : Owner) (terms : TermsOf) → term_values unit (heard seen) owner terms ≡ term_values unit seen owner terms
    heard_terms owner no_term = refl
    heard_terms owner (term_and x terms) = ap₂ (λ v vs. v ∷ vs) (heard_term owner x) (heard_terms owner terms)

  -- ---- tests

  heard_in_role : (owner : Owner) (role : List ℕ)
      → is_owner_in_role unit (heard seen) owner role ≡ is_owner_in_role unit seen owner role
  heard_in_role Run role = refl
  heard_in_role (Person p) role = refl

  mutual
    heard_test : (owner : Owner) (test : TestOf) → holds_in unit (heard seen) owner test ≡ holds_in unit seen owner test
    heard_test owner (compare_test comparison x y) = ap₂ (both_compare comparison) (heard_term owner x) (heard_term owner y)
    heard_test owner (all_test tests) = heard_all owner tests
    heard_test owner (any_test tests) = heard_any owner tests
    heard_test owner (not_test test) = ap not (heard_test owner test)
    heard_test owner (no_value_test property) = ap is_none (heard_property owner property)
    heard_test owner (member_test role) = heard_in_role owner role
    heard_test owner (users_test role test) =
        same_each (λ p. holds_in unit (heard seen) (of_person p) test) (λ p. holds_in unit seen (of_person p) test)
        (members_of unit seen role) (λ p there. heard_test (of_person p) test)
    heard_test owner (done_test thing) = refl

    heard_all : (owner : Owner) (tests : TestsOf) → all_hold unit (heard seen) owner tests ≡ all_hold unit seen owner tests
    heard_all owner no_test = refl
    heard_all owner (test_and test tests) = ap₂ (λ u v. u && v) (heard_test owner test) (heard_all owner tests)

    heard_any : (owner : Owner) (tests : TestsOf) → any_holds unit (heard seen) owner tests ≡ any_holds unit seen owner tests
    heard_any owner no_test = refl
    heard_any owner (test_and test tests) = ap₂ (λ u v. u || v) (heard_test owner test) (heard_any owner tests)

  -- ---- completion rules

  -- When it began no mark says.
  abbrev IsHeardToBegin : Completing → Type 0
  IsHeardToBegin c = (c.start >>= (heard seen).value) ≡ (c.start >>= seen.value)

  heard_value_set : (owner : Owner) (id : List ℕ) (text : Option (List ℕ))
      → has_value unit (heard seen) owner id text ≡ has_value unit seen owner id text
  heard_value_set owner id None = ap is_some (heard_property owner id)
  heard_value_set owner id (Some text) =
      ap (λ value. is_some_and (λ wanted. is_some_and (same_datum wanted) value) (value_for unit id text)) (heard_property owner id)

  heard_completion : (c : Completing) (completion : Completion) → IsHeardToBegin c
      → completion_holds unit (heard seen) c completion ≡ completion_holds unit seen c completion
  heard_completion c UserChoice begun =
      same_if (λ cell. says_yes ((heard seen).value cell)) (λ cell. says_yes (seen.value cell)) c.chosen
      (λ cell is. heard_yes cell (seen.value cell))
  heard_completion c (TimeLimit seconds) begun = ap (has_passed seen seconds) begun
  heard_completion c (WhenPropertyValueIsSet property text) begun = heard_value_set c.owner property text
  heard_completion c (WhenRolePartCompleted parts) begun = refl
  heard_completion c (WhenConditionTrue role test) begun =
      same_each (λ p. holds_in unit (heard seen) (of_person p) test) (λ p. holds_in unit seen (of_person p) test)
      (members_of unit seen role) (λ p there. heard_test (of_person p) test)
  heard_completion c WhenLastActCompleted begun = refl
  heard_completion c (WhenPlayCompleted plays) begun = refl

  heard_or_absent : (c : Completing) (completion : Option Completion) → IsHeardToBegin c
      → holds_or_absent (completion_holds unit (heard seen) c) completion ≡ holds_or_absent (completion_holds unit seen c) completion
  heard_or_absent c None begun = refl
  heard_or_absent c (Some completion) begun = heard_completion c completion begun

  heard_rule_holds : (c : Completing) (completion : Option Completion) → IsHeardToBegin c
      → rule_holds unit (heard seen) c completion ≡ rule_holds unit seen c completion
  heard_rule_holds c None begun = refl
  heard_rule_holds c (Some completion) begun = heard_completion c completion begun

  -- ---- rules

  activity_begins : (p : ℕ) (activity : Activity) → IsHeardToBegin (activity_completing unit p activity)
  activity_begins p activity = by (thing_number unit activity.identifier)
    where
      by : (thing : Option ℕ)
          → (option_map (λ t. opened_cell t (of_person p)) thing >>= (heard seen).value) ≡ (option_map (λ t. opened_cell t (of_person p)) thing >>= seen.value)
      by None = refl
      by (Some t) = refl

  opening_heard : (act : Act) → opening_of unit (heard seen) act ≡ opening_of unit seen act
  opening_heard act = by (thing_number unit act.identifier)
    where
      by : (thing : Option ℕ)
          → (option_map act_opened_cell thing >>= (heard seen).value) ≡ (option_map act_opened_cell thing >>= seen.value)
      by None = refl
      by (Some t) = refl

  heard_activity : (p : ℕ) (activity : Activity) → activity_test unit (heard seen) p activity ≡ activity_test unit seen p activity
  heard_activity p activity =
      ap (λ holds. is_mine unit seen activity.identifier p && holds)
      (heard_or_absent (activity_completing unit p activity) activity.complete (activity_begins p activity))

  heard_opening : (p a : ℕ) → opening_test unit (heard seen) p a ≡ opening_test unit seen p a
  heard_opening p zero = refl
  heard_opening p (suc a) = refl

  heard_part : (act : Act) (part : RolePart) → part_test unit (heard seen) act part ≡ part_test unit seen act part
  heard_part act part =
      ap (λ opened. is_some opened && some_and_each (target_is_done unit seen part) (members_of unit seen part.role)) (opening_heard act)

  heard_act : (act : Act) → act_test unit (heard seen) act ≡ act_test unit seen act
  heard_act act =
      ap₂ (λ opened holds. is_some opened && holds) (opening_heard act)
      (heard_rule_holds (act_completing unit act) act.complete (opening_heard act))

  -- The same of a part of the unit, if it is there.
  heard_of : {A : Type 0} → (f g : A → Bool) (o : Option A) → ((x : A) → f x ≡ g x)
      → is_some_and f o ≡ is_some_and g o
  heard_of f g o each = same_if f g o (λ x is. each x)

  heard_person : (p : ℕ) (rule : Rule) → person_test unit (heard seen) p rule ≡ person_test unit seen p rule
  heard_person p (CompletesActivity a) =
      heard_of (activity_test unit (heard seen) p) (activity_test unit seen p) (slice_get unit.activities a) (heard_activity p)
  heard_person p (CompletesStructure s) = refl
  heard_person p (JudgesCondition c) =
      heard_of (condition_test unit (heard seen) p) (condition_test unit seen p) (slice_get unit.conditions c)
      (λ condition. heard_test (of_person p) condition.test)
  heard_person p (OpensAct _ _) = refl
  heard_person p (CompletesPart _ _ _) = refl
  heard_person p (CompletesAct _ _) = refl
  heard_person p (CompletesPlay _) = refl
  heard_person p CompletesUnit = refl

  heard_run : (rule : Rule) → run_test unit (heard seen) rule ≡ run_test unit seen rule
  heard_run (OpensAct p a) = heard_opening p a
  heard_run (CompletesPart p a r) =
      heard_of (λ act. is_some_and (part_test unit (heard seen) act) (role_part_at unit p a r))
      (λ act. is_some_and (part_test unit seen act) (role_part_at unit p a r)) (act_at unit p a)
      (λ act. heard_of (part_test unit (heard seen) act) (part_test unit seen act) (role_part_at unit p a r) (heard_part act))
  heard_run (CompletesAct p a) =
      heard_of (act_test unit (heard seen)) (act_test unit seen) (act_at unit p a) heard_act
  heard_run (CompletesPlay p) =
      heard_of (play_test unit (heard seen)) (play_test unit seen) (play_at unit p)
      (λ play. heard_rule_holds (play_completing play) play.complete refl)
  heard_run CompletesUnit = heard_rule_holds unit_completing unit.method.complete refl
  heard_run (CompletesActivity _) = refl
  heard_run (CompletesStructure _) = refl
  heard_run (JudgesCondition _) = refl

  pub heard_rule : (owner : Owner) (rule : Rule) → rule_test unit (heard seen) owner rule ≡ rule_test unit seen owner rule
  heard_rule (Person p) rule = heard_person p.0 rule
  heard_rule Run rule = heard_run rule
