use Rattle.std.proofs.Common.{arith}
use Rattle.ld_walk.proofs.ExpressionSizes.{term_within}
use Rattle.ld_types.proofs.typing.Typing.+terms.Goals as goal

pub check_terms-check_term-requires : goal.check_terms-check_term-requires
check_terms-check_term-requires t c =
    let smaller = term_within c.args.terms.now c.loop-i.i c.index-terms-i.result c.loop-i-test.true c.index-terms-i.is in
    (omega (arith, smaller), tt)
