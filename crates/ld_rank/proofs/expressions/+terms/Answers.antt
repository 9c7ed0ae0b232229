use Rattle.std.proofs.Common.{arith}
use Rattle.std.proofs.lemmas.Grind.{common_steps}
use Rattle.ld_walk.proofs.ExpressionSizes.{term_within}
use Rattle.ld_rank.proofs.Told.{stops}
use Rattle.ld_rank.proofs.expressions.+terms.Goals as goal

pub put_terms-put_term-requires : goal.put_terms-put_term-requires
put_terms-put_term-requires g t c κs within =
    let smaller = term_within c.args.terms.now c.loop-term.term-index c.term-item.result c.loop-term-test.true c.term-item.is in
    (omega (arith, smaller), within)

pub put_terms-returns-in_err-put_term : goal.put_terms-returns-in_err-put_term
put_terms-returns-in_err-put_term g t c =
    grind (arith, common_steps, stops, c.in_err-put_term.ensures, c.loop-term.invariant, c.from_residual.ensures.1)

pub put_both-returns-in_err-put_term : goal.put_both-returns-in_err-put_term
put_both-returns-in_err-put_term g t c =
    grind (arith, common_steps, stops, c.in_err-put_term.ensures, c.from_residual.ensures.1)
