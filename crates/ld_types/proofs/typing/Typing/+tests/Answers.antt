use Rattle.std.proofs.Common.{arith}
use Rattle.ld_walk.proofs.ExpressionSizes.{test_within}
use Rattle.ld_types.proofs.typing.Typing.+tests.Goals as goal

pub check_tests-check_test-requires : goal.check_tests-check_test-requires
check_tests-check_test-requires t c =
    let smaller = test_within c.args.tests.now c.loop-i.i c.index-tests-i.result c.loop-i-test.true c.index-tests-i.is in
    (omega (arith, smaller), tt)
