-- The moments at which what a rule asks may switch while time alone goes on: in the order of the parts that may switch
-- there, with repeats. Between two of them it stays as it is.
use Rattle.std.specs.Prelude.{ℕ, ℤ, pos, ◌+ℤ◌, List, [], ◌∷◌, ◌++◌, flat_map, Option, Bool, true, false, slice_get, if◌then◌else◌}
use Rattle.ld_base.specs.Maybe.{◌>>=◌}
use Rattle.ld_value.specs.Datum.{Datum}
use Rattle.ld_model.specs.Expressions.{TermOf, property_term, literal_term, list_term, pair_term, now_term, opened_term, started_term, TestOf, TestsOf, compare_test, all_test, any_test, not_test, no_value_test, member_test, users_test, done_test, no_test, test_and}
use Rattle.ld_model.specs.declared.cell.Owner.{Owner}
use Rattle.ld_model.specs.declared.cell.Owner.TheVariants.{Run, Person}
use Rattle.ld_model.specs.declared.completion.Completion.{Completion}
use Rattle.ld_model.specs.declared.completion.Completion.TheVariants.{UserChoice, TimeLimit, WhenPropertyValueIsSet, WhenRolePartCompleted, WhenConditionTrue, WhenLastActCompleted, WhenPlayCompleted}
use Rattle.ld_model.specs.declared.unit.Unit.{Unit}
use Rattle.ld_names.specs.declared.rule.Rule.{Rule}
use Rattle.ld_names.specs.declared.rule.Rule.TheVariants.{CompletesActivity, CompletesStructure, OpensAct, CompletesPart, CompletesAct, CompletesPlay, CompletesUnit, JudgesCondition}
use Rattle.ld_names.specs.Rules.{Site}
use Rattle.ld_refs.specs.Extents.{play_at, act_at}
use Rattle.ld_expr.specs.Lookup.{list_from}
use Rattle.ld_expr.specs.Membership.{members_of}
use Rattle.ld_expr.specs.Owners.{of_person}
use Rattle.ld_expr.specs.Seen.{Seen, moment_of_value}
use Rattle.ld_expr.specs.Terms.{term_value}
use Rattle.ld_rules.specs.SiteTests.{Completing, activity_completing, act_completing, play_completing, unit_completing, rule_of}

-- ---- of one comparison, of one limit

-- What is compared with a moment may switch when it is reached, and a second later.
abbrev pub switches_about : ℤ → List ℤ
switches_about c = c ∷ (c +ℤ pos 1) ∷ []

-- The same of a value, where it is a moment.
abbrev pub value_switches : Option Datum → List ℤ
value_switches value = list_from switches_about (moment_of_value value)

-- A limit of this many seconds switches once, when it has passed since its start.
abbrev pub limit_switches : ℕ → Option Datum → List ℤ
limit_switches seconds start = list_from (λ begun. (begun +ℤ pos seconds) ∷ []) (moment_of_value start)

-- ---- of tests

-- The term is the moment of the command.
abbrev pub is_clock : TermOf → Bool
is_clock now_term = true
is_clock (property_term _) = false
is_clock (literal_term _ _) = false
is_clock (list_term _ _) = false
is_clock (pair_term _ _ _) = false
is_clock (opened_term _) = false
is_clock started_term = false

-- Two terms that are compared switch about the value of the one where the other is the moment of the command.
abbrev pub compare_switches : Unit → Seen → Owner → TermOf → TermOf → List ℤ
compare_switches unit seen owner a b =
    if is_clock a then value_switches (term_value unit seen owner b)
    else if is_clock b then value_switches (term_value unit seen owner a) else []

abbrev mutual
  -- A test switches where a part of it switches. One about the members of a role is asked of each of them.
  pub test_switches : Unit → Seen → Owner → TestOf → List ℤ
  test_switches unit seen owner (compare_test comparison a b) = compare_switches unit seen owner a b
  test_switches unit seen owner (all_test tests) = tests_switches unit seen owner tests
  test_switches unit seen owner (any_test tests) = tests_switches unit seen owner tests
  test_switches unit seen owner (not_test test) = test_switches unit seen owner test
  test_switches unit seen owner (no_value_test property) = []
  test_switches unit seen owner (member_test role) = []
  test_switches unit seen owner (users_test role test) =
      flat_map (λ p. test_switches unit seen (of_person p) test) (members_of unit seen role)
  test_switches unit seen owner (done_test thing) = []

  -- The switches of the tests of a list, one test after the other.
  pub tests_switches : Unit → Seen → Owner → TestsOf → List ℤ
  tests_switches unit seen owner no_test = []
  tests_switches unit seen owner (test_and test tests) =
      test_switches unit seen owner test ++ tests_switches unit seen owner tests

-- ---- of rules

-- A completion rule switches by time where it is a limit, or where it asks a test of the members of a role.
abbrev pub completion_switches : Unit → Seen → Completing → Completion → List ℤ
completion_switches unit seen c (TimeLimit seconds) = limit_switches seconds (c.start >>= seen.value)
completion_switches unit seen c (WhenConditionTrue role test) =
    flat_map (λ p. test_switches unit seen (of_person p) test) (members_of unit seen role)
completion_switches unit seen c UserChoice = []
completion_switches unit seen c (WhenPropertyValueIsSet _ _) = []
completion_switches unit seen c (WhenRolePartCompleted _) = []
completion_switches unit seen c WhenLastActCompleted = []
completion_switches unit seen c (WhenPlayCompleted _) = []

-- The same, if there is a completion rule.
abbrev pub completion_switches_if : Unit → Seen → Completing → Option Completion → List ℤ
completion_switches_if unit seen c completion = list_from (completion_switches unit seen c) completion

-- Of a rule for persons, for this person.
abbrev pub person_switches : Unit → Seen → ℕ → Rule → List ℤ
person_switches unit seen p (CompletesActivity a) =
    list_from
    (λ activity. completion_switches_if unit seen (activity_completing unit p activity) activity.complete)
    (slice_get unit.activities a)
person_switches unit seen p (JudgesCondition c) =
    list_from
    (λ condition. test_switches unit seen (of_person p) condition.test)
    (slice_get unit.conditions c)
person_switches unit seen p (CompletesStructure _) = []
person_switches unit seen p (OpensAct _ _) = []
person_switches unit seen p (CompletesPart _ _ _) = []
person_switches unit seen p (CompletesAct _ _) = []
person_switches unit seen p (CompletesPlay _) = []
person_switches unit seen p CompletesUnit = []

-- Of a rule for the run.
abbrev pub run_switches : Unit → Seen → Rule → List ℤ
run_switches unit seen (CompletesAct p a) =
    list_from
    (λ act. completion_switches_if unit seen (act_completing unit act) act.complete)
    (act_at unit p a)
run_switches unit seen (CompletesPlay p) =
    list_from
    (λ play. completion_switches_if unit seen (play_completing play) play.complete)
    (play_at unit p)
run_switches unit seen CompletesUnit =
    completion_switches_if unit seen unit_completing unit.method.complete
run_switches unit seen (OpensAct _ _) = []
run_switches unit seen (CompletesPart _ _ _) = []
run_switches unit seen (CompletesActivity _) = []
run_switches unit seen (CompletesStructure _) = []
run_switches unit seen (JudgesCondition _) = []

-- Of a rule for the owner, a person or the run.
abbrev pub rule_switches : Unit → Seen → Owner → Rule → List ℤ
rule_switches unit seen (Person p) rule = person_switches unit seen p.0 rule
rule_switches unit seen Run rule = run_switches unit seen rule

-- Of the rule of a site.
abbrev pub site_switches : Unit → Seen → Site → List ℤ
site_switches unit seen site = list_from (rule_switches unit seen site.owner) (rule_of unit site)
