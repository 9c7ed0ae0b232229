use Rattle.std.proofs.Common.{arith}
use Rattle.ld_walk.proofs.ExpressionSizes.{term_within}
use Rattle.ld_walk.proofs.terms.+terms.Goals as goal

pub list_terms-list_operand-requires : goal.list_terms-list_operand-requires
list_terms-list_operand-requires t c =
    let smaller = term_within c.args.terms.now c.loop-i.i c.index-terms-i.result c.loop-i-test.true c.index-terms-i.is in
    (omega (arith, smaller), tt)
