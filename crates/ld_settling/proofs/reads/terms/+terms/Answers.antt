use Rattle.std.proofs.Common.{◌+◌, ap, arith, drop}
use Rattle.ld_walk.proofs.ExpressionSizes.{term_within}
use Rattle.ld_model.specs.Expressions.{terms_from}
use Rattle.ld_expr.proofs.Totals.{from_here}
use Rattle.ld_expr.specs.Looks.{term_looks, terms_looks}
use Rattle.ld_state.specs.RunState.{seen_in}
use Rattle.ld_state.specs.StateView.{run_of}
use Rattle.ld_settling.proofs.Gathered.{falls_short, gathers_both, gathers_on, short_first, short_then}
use Rattle.ld_settling.proofs.Reading.{on_err, on_ok, so_err}
use Rattle.ld_settling.proofs.reads.terms.+terms.Goals as goal

pub read_both-returns-in_err-read_term-clause-short : goal.read_both-returns-in_err-read_term-clause-short
read_both-returns-in_err-read_term-clause-short t c =
    let unit = c.args.reader.now.unit.now in
    let run = run_of c.args.reader.now.state.now in
    let looks = term_looks unit (seen_in unit run) c.args.owner in
    so_err c.from_residual.result
    (short_first unit run (looks c.args.a.now) (looks c.args.b.now) c.args.list.now c.in_err-read_term.ensures.short)

pub read_both-returns-clause-gathers : goal.read_both-returns-clause-gathers
read_both-returns-clause-gathers t c =
    on_ok c.read_term-2.result
    (gathers_both c.args.reader.now.unit.now (run_of c.args.reader.now.state.now) c.in_ok-read_term.ensures.gathers)
    c.read_term-2.ensures.gathers

pub read_both-returns-clause-short : goal.read_both-returns-clause-short
read_both-returns-clause-short t c =
    let unit = c.args.reader.now.unit.now in
    let run = run_of c.args.reader.now.state.now in
    let looks = term_looks unit (seen_in unit run) c.args.owner in
    on_err c.read_term-2.result
    (short_then unit run (looks c.args.a.now) (looks c.args.b.now) c.args.list.now c.read_term.new.list c.in_ok-read_term.ensures.gathers)
    c.read_term-2.ensures.short

pub read_terms-read_term-requires : goal.read_terms-read_term-requires
read_terms-read_term-requires t c =
    let smaller = term_within c.args.terms.now c.loop-term.term-index c.term-item.result c.loop-term-test.true c.term-item.is in
    omega (arith, smaller)

pub read_terms-returns-in_err-read_term-clause-short : goal.read_terms-returns-in_err-read_term-clause-short
read_terms-returns-in_err-read_term-clause-short t c =
    let unit = c.args.reader.now.unit.now in
    let seen = seen_in unit (run_of c.args.reader.now.state.now) in
    let i = c.loop-term.term-index in
    so_err c.from_residual.result
    (falls_short (term_looks unit seen c.args.owner c.term-item.result)
    (terms_looks unit seen c.args.owner (terms_from (drop (i + 1) c.args.terms.now))) c.loop-term.invariant
    (ap (λ terms. terms_looks unit seen c.args.owner (terms_from terms))
    (from_here c.args.terms.now i c.term-item.result c.loop-term-test.true c.term-item.is))
    c.in_err-read_term.ensures.short)

pub read_terms-loop-term-preserved : goal.read_terms-loop-term-preserved
read_terms-loop-term-preserved t c =
    let unit = c.args.reader.now.unit.now in
    let seen = seen_in unit (run_of c.args.reader.now.state.now) in
    let i = c.loop-term.term-index in
    gathers_on (term_looks unit seen c.args.owner c.term-item.result)
    (terms_looks unit seen c.args.owner (terms_from (drop (i + 1) c.args.terms.now))) c.loop-term.invariant
    (ap (λ terms. terms_looks unit seen c.args.owner (terms_from terms))
    (from_here c.args.terms.now i c.term-item.result c.loop-term-test.true c.term-item.is))
    c.in_ok-read_term.ensures.gathers
