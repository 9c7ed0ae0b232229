use Rattle.std.proofs.Common.{◌*◌, ◌+◌, drop}
use Rattle.ld_model.specs.Expressions.{terms_from, term_size, terms_size}
use Rattle.ld_expr.specs.Looks.{terms_looks}
use Rattle.ld_state.specs.RunState.{seen_in}
use Rattle.ld_state.specs.StateView.{run_of}
use Rattle.ld_settling.proofs.Gathered.{Remaining}
use Rattle.ld_settling.proofs.reads.terms.+terms.Given as goal

abbrev pub invariant-read_terms-loop-term : goal.invariant-read_terms-loop-term
invariant-read_terms-loop-term l =
    let unit = l.reader.unit.now in
    let run = run_of l.reader.state.now in
    let looks = terms_looks unit (seen_in unit run) l.owner in
    Remaining unit run (looks (terms_from l.terms)) (looks (terms_from (drop l.term-index l.terms))) l.fn.list l.list

abbrev pub decreases-read_term : goal.decreases-read_term
decreases-read_term l = 3 * term_size l.term.now

abbrev pub decreases-read_terms : goal.decreases-read_terms
decreases-read_terms l = 3 * terms_size (terms_from l.terms.now) + 1

abbrev pub decreases-read_both : goal.decreases-read_both
decreases-read_both l = 3 * (term_size l.a.now + term_size l.b.now) + 1
