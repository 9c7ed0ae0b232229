-- There are at most two switches for each cell at which a rule looks.
use Rattle.std.proofs.Common.{◌≡◌, refl, ℕ, ◌*◌, ◌≤◌, ℤ, pos, ◌+ℤ◌, List, [], ◌∷◌, ◌++◌, flat_map, map, length, length-append, Option, Some, None, Bool, true, false, arith, if◌then◌else◌, slice_get}
use Rattle.ld_base.specs.Maybe.{◌>>=◌}
use Rattle.ld_model.specs.Expressions.{TermOf, property_term, literal_term, list_term, pair_term, now_term, opened_term, started_term, TestOf, TestsOf, compare_test, all_test, any_test, not_test, no_value_test, member_test, users_test, done_test, no_test, test_and}
use Rattle.ld_model.specs.declared.cell.CellName.{CellName}
use Rattle.ld_model.specs.declared.cell.CellName.TheVariants.{Now}
use Rattle.ld_model.specs.declared.cell.Owner.{Owner}
use Rattle.ld_model.specs.declared.cell.Owner.TheVariants.{Run, Person}
use Rattle.ld_model.specs.declared.completion.Completion.{Completion}
use Rattle.ld_model.specs.declared.completion.Completion.TheVariants.{UserChoice, TimeLimit, WhenPropertyValueIsSet, WhenRolePartCompleted, WhenConditionTrue, WhenLastActCompleted, WhenPlayCompleted}
use Rattle.ld_model.specs.declared.unit.Unit.{Unit}
use Rattle.ld_names.specs.Rules.{Site}
use Rattle.ld_names.specs.declared.rule.Rule.{Rule}
use Rattle.ld_names.specs.declared.rule.Rule.TheVariants.{CompletesActivity, CompletesStructure, OpensAct, CompletesPart, CompletesAct, CompletesPlay, CompletesUnit, JudgesCondition}
use Rattle.ld_refs.specs.Extents.{play_at, act_at}
use Rattle.ld_expr.specs.Lookup.{list_from}
use Rattle.ld_expr.specs.Looks.{term_looks, test_looks, tests_looks, members_looks}
use Rattle.ld_expr.specs.Membership.{members_of}
use Rattle.ld_expr.specs.Owners.{of_person}
use Rattle.ld_expr.specs.Seen.{Seen, moment_of_value, member_cell}
use Rattle.ld_expr.specs.Terms.{term_value}
use Rattle.ld_state.specs.RunCells.{cell_if}
use Rattle.ld_rules.specs.SiteLooks.{cell_list, completion_looks, completion_looks_if, reaching_roles, site_activity_looks, site_act_looks, person_looks, run_looks, rule_looks, looks_by, open_looks}
use Rattle.ld_rules.specs.SiteTests.{Completing, activity_completing, act_completing, play_completing, unit_completing, opening_cell, says_for_good, site_mark, rule_of}
use Rattle.ld_alarm.specs.Switches.{switches_about, value_switches, is_clock, compare_switches, test_switches, tests_switches, completion_switches, completion_switches_if, person_switches, run_switches, rule_switches, site_switches}

pub two_at_most : (value : Option ℤ) → length (list_from switches_about value) ≤ 2
two_at_most None = omega arith
two_at_most (Some c) = omega arith

pub limit_once : (seconds : ℕ) (start : Option ℤ) → length (list_from (λ begun. (begun +ℤ pos seconds) ∷ []) start) ≤ 1
limit_once seconds None = omega arith
limit_once seconds (Some begun) = omega arith

clock_looks : (unit : Unit) (seen : Seen) (owner : Owner) (term : TermOf) → is_clock term ≡ true → length (term_looks unit seen owner term) ≡ 1
clock_looks unit seen owner now_term is = refl
clock_looks unit seen owner (property_term id) is = absurd (cc)
clock_looks unit seen owner (literal_term kind text) is = absurd (cc)
clock_looks unit seen owner (list_term operator terms) is = absurd (cc)
clock_looks unit seen owner (pair_term operator a b) is = absurd (cc)
clock_looks unit seen owner (opened_term id) is = absurd (cc)
clock_looks unit seen owner started_term is = absurd (cc)

module _ (unit : Unit) (seen : Seen) where
  compare_few : (owner : Owner) (a b : TermOf)
      → length (compare_switches unit seen owner a b) ≤ 2 * length (term_looks unit seen owner a ++ term_looks unit seen owner b)
  compare_few owner a b = by (is_clock a) (is_clock b) refl refl
    where
      by : (first second : Bool) → is_clock a ≡ first → is_clock b ≡ second
          → length (if first then value_switches (term_value unit seen owner b) else if second then value_switches (term_value unit seen owner a) else [])
          ≤ 2 * length (term_looks unit seen owner a ++ term_looks unit seen owner b)
      by true second is other =
          omega (arith, two_at_most (moment_of_value (term_value unit seen owner b)), clock_looks unit seen owner a is, length-append (term_looks unit seen owner a) (term_looks unit seen owner b))
      by false true is other =
          omega (arith, two_at_most (moment_of_value (term_value unit seen owner a)), clock_looks unit seen owner b other, length-append (term_looks unit seen owner a) (term_looks unit seen owner b))
      by false false is other = omega arith

  each_few : (f : ℕ → List ℤ) (g : ℕ → List CellName) (ps : List ℕ) → ((p : ℕ) → length (f p) ≤ 2 * length (g p))
      → length (flat_map f ps) ≤ 2 * length (flat_map g ps)
  each_few f g [] few = omega arith
  each_few f g (p ∷ ps) few =
      omega (arith, few p, each_few f g ps few, length-append (f p) (flat_map f ps), length-append (g p) (flat_map g ps))

  users_few : (role : List ℕ) (f : ℕ → List ℤ) (g : ℕ → List CellName) → ((p : ℕ) → length (f p) ≤ 2 * length (g p))
      → length (flat_map f (members_of unit seen role)) ≤ 2 * length (members_looks unit seen role ++ flat_map g (members_of unit seen role))
  users_few role f g few =
      omega (arith, each_few f g (members_of unit seen role) few, length-append (members_looks unit seen role) (flat_map g (members_of unit seen role)))

  mutual
    pub test_few : (owner : Owner) (test : TestOf) → length (test_switches unit seen owner test) ≤ 2 * length (test_looks unit seen owner test)
    test_few owner (compare_test comparison a b) = compare_few owner a b
    test_few owner (all_test tests) = tests_few owner tests
    test_few owner (any_test tests) = tests_few owner tests
    test_few owner (not_test test) = test_few owner test
    test_few owner (no_value_test property) = omega arith
    test_few owner (member_test role) = omega arith
    test_few owner (users_test role test) =
        users_few role (λ p. test_switches unit seen (of_person p) test) (λ p. test_looks unit seen (of_person p) test)
        (λ p. test_few (of_person p) test)
    test_few owner (done_test thing) = omega arith

    tests_few : (owner : Owner) (tests : TestsOf) → length (tests_switches unit seen owner tests) ≤ 2 * length (tests_looks unit seen owner tests)
    tests_few owner no_test = omega arith
    tests_few owner (test_and test tests) =
        omega (
          arith,
          test_few owner test,
          tests_few owner tests,
          length-append (test_switches unit seen owner test) (tests_switches unit seen owner tests),
          length-append (test_looks unit seen owner test) (tests_looks unit seen owner tests),
        )

  completion_few : (c : Completing) (completion : Completion)
      → length (completion_switches unit seen c completion) ≤ 2 * length (completion_looks unit seen c completion)
  completion_few c UserChoice = omega arith
  completion_few c (TimeLimit seconds) =
      omega (arith, limit_once seconds (moment_of_value (c.start >>= seen.value)), length-append (cell_list c.start) (Now ∷ []))
  completion_few c (WhenPropertyValueIsSet property text) = omega arith
  completion_few c (WhenRolePartCompleted parts) = omega arith
  completion_few c (WhenConditionTrue role test) =
      users_few role (λ p. test_switches unit seen (of_person p) test) (λ p. test_looks unit seen (of_person p) test)
      (λ p. test_few (of_person p) test)
  completion_few c WhenLastActCompleted = omega arith
  completion_few c (WhenPlayCompleted plays) = omega arith

  few_if : (c : Completing) (completion : Option Completion)
      → length (completion_switches_if unit seen c completion) ≤ 2 * length (completion_looks_if unit seen c completion)
  few_if c None = omega arith
  few_if c (Some completion) = completion_few c completion

  few_behind : (before : List CellName) (c : Completing) (completion : Option Completion)
      → length (completion_switches_if unit seen c completion) ≤ 2 * length (before ++ completion_looks_if unit seen c completion)
  few_behind before c completion =
      omega (arith, few_if c completion, length-append before (completion_looks_if unit seen c completion))

  few_found : {A : Type 0} → (switches : A → List ℤ) (looks : A → List CellName) (o : Option A)
      → ((x : A) → length (switches x) ≤ 2 * length (looks x)) → length (list_from switches o) ≤ 2 * length (list_from looks o)
  few_found switches looks None few = omega arith
  few_found switches looks (Some x) few = few x

  person_few : (p : ℕ) (rule : Rule) → length (person_switches unit seen p rule) ≤ 2 * length (person_looks unit seen p rule)
  person_few p (CompletesActivity n) =
      few_found (λ activity. completion_switches_if unit seen (activity_completing unit p activity) activity.complete)
      (λ activity. site_activity_looks unit seen p activity) (slice_get unit.activities n)
      (λ activity. few_behind (map (λ r. member_cell r p) (reaching_roles unit activity.identifier)) (activity_completing unit p activity) activity.complete)
  person_few p (CompletesStructure n) = omega arith
  person_few p (JudgesCondition n) =
      few_found (λ condition. test_switches unit seen (of_person p) condition.test)
      (λ condition. test_looks unit seen (of_person p) condition.test) (slice_get unit.conditions n)
      (λ condition. test_few (of_person p) condition.test)
  person_few p (OpensAct _ _) = omega arith
  person_few p (CompletesPart _ _ _) = omega arith
  person_few p (CompletesAct _ _) = omega arith
  person_few p (CompletesPlay _) = omega arith
  person_few p CompletesUnit = omega arith

  run_few : (rule : Rule) → length (run_switches unit seen rule) ≤ 2 * length (run_looks unit seen rule)
  run_few (OpensAct p n) = omega arith
  run_few (CompletesPart p n r) = omega arith
  run_few (CompletesAct p n) =
      few_found (λ act. completion_switches_if unit seen (act_completing unit act) act.complete)
      (site_act_looks unit seen) (act_at unit p n)
      (λ act. few_behind (cell_list (opening_cell unit act)) (act_completing unit act) act.complete)
  run_few (CompletesPlay p) =
      few_found (λ play. completion_switches_if unit seen (play_completing play) play.complete)
      (λ play. completion_looks_if unit seen (play_completing play) play.complete) (play_at unit p)
      (λ play. few_if (play_completing play) play.complete)
  run_few CompletesUnit = few_if unit_completing unit.method.complete
  run_few (CompletesActivity _) = omega arith
  run_few (CompletesStructure _) = omega arith
  run_few (JudgesCondition _) = omega arith

  rule_few : (owner : Owner) (rule : Rule) → length (rule_switches unit seen owner rule) ≤ 2 * length (rule_looks unit seen owner rule)
  rule_few (Person p) rule = person_few p.0 rule
  rule_few Run rule = run_few rule

  pub site_few : (site : Site) → length (site_switches unit seen site) ≤ 2 * length (open_looks unit seen site)
  site_few site =
      few_found (rule_switches unit seen site.owner) (looks_by unit seen site) (rule_of unit site)
      (λ rule. omega (
        arith,
        rule_few site.owner rule,
        length-append (cell_if (says_for_good rule) (site_mark site)) (rule_looks unit seen site.owner rule),
      ))
