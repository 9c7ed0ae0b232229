use Rattle.std.proofs.Common.{◌+◌, ◌-◌, ◌≤◌, length}
use Rattle.std.specs.List.{range_with_len}
use Rattle.ld_expr.specs.Looks.{done_looks}
use Rattle.ld_expr.specs.Membership.{is_member}
use Rattle.ld_expr.specs.Owners.{of_person}
use Rattle.ld_expr.specs.Seen.{everyone}
use Rattle.ld_state.specs.RunState.{seen_in}
use Rattle.ld_state.specs.StateView.{run_of}
use Rattle.ld_settling.proofs.Gathered.{Remaining, of_members}
use Rattle.ld_settling.proofs.reads.members.read_marks_of_members.Given as goal

abbrev pub invariant-loop-number : goal.invariant-loop-number
invariant-loop-number g l =
    let unit = l.reader.unit.now in
    let run = run_of l.reader.state.now in
    let seen = seen_in unit run in
    let looks = of_members (λ p. done_looks unit seen (of_person p) l.target) (is_member seen l.role.0) in
    let left = range_with_len l.number (l.number-end - l.number) in
    Remaining unit run (looks (everyone seen)) (looks left) l.fn.list l.list
    × (l.steps + length left ≤ l.fn.steps + length (everyone seen))
