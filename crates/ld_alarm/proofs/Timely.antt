-- Where tests look at the moment of the command: only as one side of a comparison whose other side does not.
use Rattle.std.specs.Prelude.{◌≡◌, ℕ, Option, Some, None, Bool, true, ◌&&◌, not, slice_get}
use Rattle.ld_model.specs.Expressions.{TermOf, TestOf, TestsOf, property_term, literal_term, list_term, pair_term, now_term, opened_term, started_term, compare_test, all_test, any_test, not_test, no_value_test, member_test, users_test, done_test, no_test, test_and}
use Rattle.ld_model.specs.declared.activity.Activity.{Activity}
use Rattle.ld_model.specs.declared.completion.Completion.{Completion}
use Rattle.ld_model.specs.declared.completion.Completion.TheVariants.{UserChoice, TimeLimit, WhenPropertyValueIsSet, WhenRolePartCompleted, WhenConditionTrue, WhenLastActCompleted, WhenPlayCompleted}
use Rattle.ld_model.specs.declared.condition.Condition.{Condition}
use Rattle.ld_model.specs.declared.method.Act.{Act}
use Rattle.ld_model.specs.declared.method.Play.{Play}
use Rattle.ld_model.specs.declared.unit.Unit.{Unit}
use Rattle.ld_walk.specs.ExpressionParts.{reads_clock, any_reads_clock}
use Rattle.ld_refs.specs.Extents.{play_at, act_at}

-- The term does not look at the moment of the command, or it is that moment, where it may be.
abbrev pub is_plain : Bool → TermOf → Bool
is_plain clock now_term = clock
is_plain clock (property_term _) = true
is_plain clock (literal_term _ _) = true
is_plain clock (list_term _ terms) = not (any_reads_clock terms)
is_plain clock (pair_term operator a b) = not (reads_clock (pair_term operator a b))
is_plain clock (opened_term _) = true
is_plain clock started_term = true

abbrev mutual
  -- In each comparison of the test, one side at most looks at the moment of the command, and that one is it.
  pub is_timely : TestOf → Bool
  is_timely (compare_test comparison a b) = is_plain (not (reads_clock b)) a && is_plain (not (reads_clock a)) b
  is_timely (all_test tests) = are_timely tests
  is_timely (any_test tests) = are_timely tests
  is_timely (not_test test) = is_timely test
  is_timely (no_value_test property) = true
  is_timely (member_test role) = true
  is_timely (users_test role test) = is_timely test
  is_timely (done_test thing) = true

  -- The same of each test of a list.
  pub are_timely : TestsOf → Bool
  are_timely no_test = true
  are_timely (test_and test tests) = is_timely test && are_timely tests

-- The same of the test of a completion rule.
abbrev pub is_timely_rule : Completion → Bool
is_timely_rule (WhenConditionTrue role test) = is_timely test
is_timely_rule UserChoice = true
is_timely_rule (TimeLimit _) = true
is_timely_rule (WhenPropertyValueIsSet _ _) = true
is_timely_rule (WhenRolePartCompleted _) = true
is_timely_rule WhenLastActCompleted = true
is_timely_rule (WhenPlayCompleted _) = true

-- The same, if there is a completion rule.
abbrev pub is_timely_if : Option Completion → Bool
is_timely_if None = true
is_timely_if (Some completion) = is_timely_rule completion

-- The same of all tests of a unit.
pub record IsTimelyUnit (unit : Unit) : Type 0 where
  pub conditions : (n : ℕ) (condition : Condition) → slice_get unit.conditions n ≡ Some condition
      → is_timely condition.test ≡ true
  pub activities : (n : ℕ) (activity : Activity) → slice_get unit.activities n ≡ Some activity
      → is_timely_if activity.complete ≡ true
  pub acts : (p a : ℕ) (act : Act) → act_at unit p a ≡ Some act → is_timely_if act.complete ≡ true
  pub plays : (p : ℕ) (play : Play) → play_at unit p ≡ Some play → is_timely_if play.complete ≡ true
  pub whole : is_timely_if unit.method.complete ≡ true
