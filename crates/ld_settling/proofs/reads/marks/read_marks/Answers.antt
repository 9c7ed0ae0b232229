use Rattle.std.proofs.Common.{◌+◌, ap, drop}
use Rattle.ld_expr.proofs.Totals.{from_here}
use Rattle.ld_expr.specs.Looks.{done_looks}
use Rattle.ld_rules.specs.SiteLooks.{all_done_looks}
use Rattle.ld_state.specs.RunState.{seen_in}
use Rattle.ld_state.specs.StateView.{run_of}
use Rattle.ld_settling.proofs.Gathered.{falls_short}
use Rattle.ld_settling.proofs.Reading.{so_err}
use Rattle.ld_settling.proofs.reads.marks.read_marks.Goals as goal

pub returns-in_err-read_mark-clause-short : goal.returns-in_err-read_mark-clause-short
returns-in_err-read_mark-clause-short c =
    let unit = c.args.reader.now.unit.now in
    let seen = seen_in unit (run_of c.args.reader.now.state.now) in
    let looks = all_done_looks unit seen c.args.owner in
    let i = c.loop-id.id-index in
    so_err c.from_residual.result
    (falls_short (done_looks unit seen c.args.owner c.id-item.result) (looks (drop (i + 1) c.args.ids.now)) c.loop-id.invariant
    (ap looks (from_here c.args.ids.now i c.id-item.result c.loop-id-test.true c.id-item.is))
    c.in_err-read_mark.ensures.short)
