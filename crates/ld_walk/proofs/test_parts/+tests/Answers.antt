use Rattle.std.proofs.Common.{arith}
use Rattle.ld_walk.proofs.ExpressionSizes.{test_within}
use Rattle.ld_walk.proofs.test_parts.+tests.Goals as goal

pub list_tests-list_nth_test-requires : goal.list_tests-list_nth_test-requires
list_tests-list_nth_test-requires t c =
    let smaller = test_within c.args.tests.now c.loop-i.i c.index-tests-i.result c.loop-i-test.true c.index-tests-i.is in
    (omega (arith, smaller), tt)
