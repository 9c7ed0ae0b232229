use Rattle.std.proofs.Common.{arith}
use Rattle.ld_walk.proofs.ExpressionSizes.{term_within}
use Rattle.ld_types.proofs.typing.Typing.+types.Goals as goal

pub term_types-term_type-requires : goal.term_types-term_type-requires
term_types-term_type-requires t c =
    let smaller = term_within c.args.terms.now c.loop-term.term-index c.term-item.result c.loop-term-test.true c.term-item.is in
    (omega (arith, smaller), tt)
