use Rattle.std.proofs.Common.{◌≡◌, ◌*◌, ◌+◌, drop}
use Rattle.ld_model.specs.Expressions.{tests_from, test_size, tests_size}
use Rattle.ld_walk.specs.ExpressionParts.{tests_parts}
use Rattle.ld_walk.specs.Places.{member}
use Rattle.ld_walk.specs.Walks.{added}
use Rattle.ld_walk.proofs.test_parts.+tests.Given as goal

abbrev pub invariant-list_tests-loop-i : goal.invariant-list_tests-loop-i
invariant-list_tests-loop-i l = added l.walk (tests_parts (member l.fn.walk.at l.name) l.of_members l.i (tests_from (drop l.i l.tests))) ≡ added l.fn.walk (tests_parts (member l.fn.walk.at l.name) l.of_members 0 (tests_from l.tests))

abbrev pub decreases-list_test : goal.decreases-list_test
decreases-list_test l = 3 * test_size l.test.now

abbrev pub decreases-list_inner : goal.decreases-list_inner
decreases-list_inner l = 3 * test_size l.test.now + 1

abbrev pub decreases-list_nth_test : goal.decreases-list_nth_test
decreases-list_nth_test l = 3 * test_size l.test.now + 1

abbrev pub decreases-list_tests : goal.decreases-list_tests
decreases-list_tests l = 3 * tests_size (tests_from l.tests.now) + 2

abbrev pub decreases-list_users : goal.decreases-list_users
decreases-list_users l = 3 * test_size l.test.now + 2
