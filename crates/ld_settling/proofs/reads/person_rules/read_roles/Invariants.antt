use Rattle.std.proofs.Common.{drop, map}
use Rattle.ld_expr.specs.Seen.{member_cell}
use Rattle.ld_state.specs.StateView.{run_of}
use Rattle.ld_settling.proofs.Gathered.{Remaining}
use Rattle.ld_settling.proofs.reads.person_rules.read_roles.Given as goal

abbrev pub invariant-loop-role : goal.invariant-loop-role
invariant-loop-role l =
    let cells = map (λ r. member_cell r l.person.0) in
    Remaining l.reader.unit.now (run_of l.reader.state.now) (cells l.roles) (cells (drop l.role-index l.roles)) l.fn.list l.list
