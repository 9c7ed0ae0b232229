use Rattle.std.proofs.Common.{drop}
use Rattle.ld_rules.specs.SiteLooks.{all_done_looks}
use Rattle.ld_state.specs.RunState.{seen_in}
use Rattle.ld_state.specs.StateView.{run_of}
use Rattle.ld_settling.proofs.Gathered.{Remaining}
use Rattle.ld_settling.proofs.reads.marks.read_marks.Given as goal

abbrev pub invariant-loop-id : goal.invariant-loop-id
invariant-loop-id l =
    let unit = l.reader.unit.now in
    let run = run_of l.reader.state.now in
    let looks = all_done_looks unit (seen_in unit run) l.owner in
    Remaining unit run (looks l.ids) (looks (drop l.id-index l.ids)) l.fn.list l.list
