use Rattle.std.proofs.Common.{◌≡◌, ◌*◌, ◌+◌, ◌-◌, ◌≤◌, drop, length, option_map}
use Rattle.std.specs.List.{range_with_len}
use Rattle.ld_model.specs.Expressions.{tests_from, test_size, tests_size}
use Rattle.ld_value.specs.declared.moment.Moment.{Moment}
use Rattle.ld_expr.specs.Looks.{tests_looks}
use Rattle.ld_alarm.specs.Later.{earlier, next_after}
use Rattle.ld_alarm.specs.Switches.{tests_switches}
use Rattle.ld_alarm.proofs.Members.{Looking}
use Rattle.ld_alarm.proofs.test_switches.+tests.Given as goal

abbrev pub invariant-next_of_tests-loop-test : goal.invariant-next_of_tests-loop-test
invariant-next_of_tests-loop-test g l =
    let unit = l.scope.unit.now in
    let seen = g.V.View.seen l.scope.view.now in
    let all = tests_from l.tests in
    let rest = tests_from (drop l.test-index l.tests) in
    (earlier (option_map (λ (moment : Moment). moment.0) l.next) (next_after l.after.0 (tests_switches unit seen l.owner rest))
    ≡ next_after l.after.0 (tests_switches unit seen l.owner all))
    × (2 * l.steps + length (tests_switches unit seen l.owner all) + 2 * length (tests_looks unit seen l.owner rest)
    ≤ 2 * l.fn.steps + 2 * length (tests_looks unit seen l.owner all) + length (tests_switches unit seen l.owner rest))

abbrev pub invariant-next_of_members-loop-number : goal.invariant-next_of_members-loop-number
invariant-next_of_members-loop-number g l =
    Looking l.scope.unit.now (g.V.View.seen l.scope.view.now) l.role.0 l.test l.after.0
    (option_map (λ (moment : Moment). moment.0) l.next) (range_with_len l.number (l.number-end - l.number))
    l.steps l.fn.steps

abbrev pub decreases-next_of_test : goal.decreases-next_of_test
decreases-next_of_test g l = 4 * test_size l.test.now

abbrev pub decreases-next_of_tests : goal.decreases-next_of_tests
decreases-next_of_tests g l = 4 * tests_size (tests_from l.tests.now) + 1

abbrev pub decreases-next_of_members : goal.decreases-next_of_members
decreases-next_of_members g l = 4 * test_size l.test.now + 1

abbrev pub decreases-next_of_users : goal.decreases-next_of_users
decreases-next_of_users g l = 4 * test_size l.test.now + 2
