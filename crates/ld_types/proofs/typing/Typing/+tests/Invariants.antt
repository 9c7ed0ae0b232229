use Rattle.std.proofs.Common.{◌≡◌, ◌*◌, ◌+◌, drop}
use Rattle.ld_model.specs.Expressions.{tests_from, test_size, tests_size}
use Rattle.ld_types.specs.TermFaults.{tests_faults}
use Rattle.ld_types.specs.TypingView.{find_by}
use Rattle.ld_types.proofs.typing.Typing.+tests.Given as goal

abbrev pub invariant-check_tests-loop-i : goal.invariant-check_tests-loop-i
invariant-check_tests-loop-i l = tests_faults (find_by l.self) l.at l.i (tests_from (drop l.i l.tests)) ≡ tests_faults (find_by l.self) l.at 0 (tests_from l.tests)

abbrev pub decreases-check_test : goal.decreases-check_test
decreases-check_test l = 2 * test_size l.test.now

abbrev pub decreases-check_tests : goal.decreases-check_tests
decreases-check_tests l = 2 * tests_size (tests_from l.tests.now) + 1
