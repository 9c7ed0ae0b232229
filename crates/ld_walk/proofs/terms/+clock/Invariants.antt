use Rattle.std.proofs.Common.{◌≡◌, drop, ◌*◌, ◌+◌}
use Rattle.ld_model.specs.Expressions.{terms_from, term_size, terms_size}
use Rattle.ld_walk.specs.ExpressionParts.{any_reads_clock}
use Rattle.ld_walk.proofs.terms.+clock.Given as goal

abbrev pub invariant-any_reads_clock-loop-term : goal.invariant-any_reads_clock-loop-term
invariant-any_reads_clock-loop-term l = any_reads_clock (terms_from (drop l.term-index l.terms)) ≡ any_reads_clock (terms_from l.terms)

abbrev pub decreases-reads_clock : goal.decreases-reads_clock
decreases-reads_clock l = 2 * term_size l.term.now

abbrev pub decreases-any_reads_clock : goal.decreases-any_reads_clock
decreases-any_reads_clock l = 2 * terms_size (terms_from l.terms.now) + 1
