use Rattle.std.proofs.Common.{◌≡◌, ◌*◌, ◌+◌, drop}
use Rattle.ld_model.specs.Expressions.{terms_from, term_size, terms_size}
use Rattle.ld_expr.specs.Looks.{terms_looks}
use Rattle.ld_rank.specs.Alone.{seen_alone}
use Rattle.ld_rank.specs.Telling.{told_after}
use Rattle.ld_rank.proofs.expressions.+terms.Given as goal

abbrev pub invariant-put_terms-loop-term : goal.invariant-put_terms-loop-term
invariant-put_terms-loop-term g l =
    told_after g.S.CellSink.after (g.S.CellSink.told l.cells) (terms_looks l.unit (seen_alone l.unit) l.owner (terms_from (drop l.term-index l.terms))) ≡ told_after g.S.CellSink.after (g.S.CellSink.told l.fn.cells) (terms_looks l.unit (seen_alone l.unit) l.owner (terms_from l.terms))

abbrev pub decreases-put_term : goal.decreases-put_term
decreases-put_term g l = 3 * term_size l.term.now

abbrev pub decreases-put_terms : goal.decreases-put_terms
decreases-put_terms g l = 3 * terms_size (terms_from l.terms.now) + 1

abbrev pub decreases-put_both : goal.decreases-put_both
decreases-put_both g l = 3 * (term_size l.a.now + term_size l.b.now) + 1
