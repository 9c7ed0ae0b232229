use Rattle.std.proofs.Common.{arith}
use Rattle.ld_walk.proofs.ExpressionSizes.{term_within}
use Rattle.ld_walk.proofs.terms.+clock.Goals as goal

pub any_reads_clock-reads_clock-requires : goal.any_reads_clock-reads_clock-requires
any_reads_clock-reads_clock-requires t c =
    let smaller = term_within c.args.terms.now c.loop-term.term-index c.term-item.result c.loop-term-test.true c.term-item.is in
    (omega (arith, smaller, c.decreases), tt)
