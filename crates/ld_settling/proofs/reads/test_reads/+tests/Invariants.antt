use Rattle.std.proofs.Common.{◌*◌, ◌+◌, ◌-◌, ◌≤◌, drop, length}
use Rattle.std.specs.List.{range_with_len}
use Rattle.ld_model.specs.Expressions.{tests_from, test_size, tests_size}
use Rattle.ld_expr.specs.Looks.{test_looks, tests_looks}
use Rattle.ld_expr.specs.Membership.{is_member}
use Rattle.ld_expr.specs.Owners.{of_person}
use Rattle.ld_expr.specs.Seen.{everyone}
use Rattle.ld_state.specs.RunState.{seen_in}
use Rattle.ld_state.specs.StateView.{run_of}
use Rattle.ld_settling.proofs.Gathered.{Remaining, of_members}
use Rattle.ld_settling.proofs.reads.test_reads.+tests.Given as goal

abbrev pub invariant-read_tests-loop-test : goal.invariant-read_tests-loop-test
invariant-read_tests-loop-test g l =
    let unit = l.reader.unit.now in
    let looks = tests_looks unit (seen_in unit (run_of l.reader.state.now)) l.owner in
    let whole = looks (tests_from l.tests) in
    let left = looks (tests_from (drop l.test-index l.tests)) in
    Remaining unit (run_of l.reader.state.now) whole left l.fn.list l.list
    × (l.steps + length left ≤ l.fn.steps + length whole)

abbrev pub invariant-read_for_members-loop-number : goal.invariant-read_for_members-loop-number
invariant-read_for_members-loop-number g l =
    let unit = l.reader.unit.now in
    let seen = seen_in unit (run_of l.reader.state.now) in
    let looks = of_members (λ p. test_looks unit seen (of_person p) l.test) (is_member seen l.role.0) in
    let left = range_with_len l.number (l.number-end - l.number) in
    Remaining unit (run_of l.reader.state.now) (looks (everyone seen)) (looks left) l.fn.list l.list
    × (l.steps + (length left + length (looks left)) ≤ l.fn.steps + (length (everyone seen) + length (looks (everyone seen))))

abbrev pub decreases-read_test : goal.decreases-read_test
decreases-read_test g l = 5 * test_size l.test.now

abbrev pub decreases-read_tests : goal.decreases-read_tests
decreases-read_tests g l = 5 * tests_size (tests_from l.tests.now) + 1

abbrev pub decreases-read_for_member : goal.decreases-read_for_member
decreases-read_for_member g l = 5 * test_size l.test.now + 1

abbrev pub decreases-read_for_members : goal.decreases-read_for_members
decreases-read_for_members g l = 5 * test_size l.test.now + 2

abbrev pub decreases-read_users : goal.decreases-read_users
decreases-read_users g l = 5 * test_size l.test.now + 3
