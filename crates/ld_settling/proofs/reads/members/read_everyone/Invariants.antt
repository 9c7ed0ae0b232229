use Rattle.std.proofs.Common.{◌-◌, map}
use Rattle.std.specs.List.{range_with_len}
use Rattle.ld_expr.specs.Seen.{everyone, member_cell}
use Rattle.ld_state.specs.RunState.{seen_in}
use Rattle.ld_state.specs.StateView.{run_of}
use Rattle.ld_settling.proofs.Gathered.{Remaining}
use Rattle.ld_settling.proofs.reads.members.read_everyone.Given as goal

abbrev pub invariant-loop-number : goal.invariant-loop-number
invariant-loop-number l =
    let unit = l.reader.unit.now in
    let run = run_of l.reader.state.now in
    Remaining unit run (map (member_cell l.role.0) (everyone (seen_in unit run)))
    (map (member_cell l.role.0) (range_with_len l.number (l.number-end - l.number))) l.fn.list l.list
