use Rattle.std.proofs.Common.{[], ◌∷◌, map}
use Rattle.ld_model.specs.declared.cell.CellName.TheVariants.{Roster}
use Rattle.ld_names.specs.Names.{role_number}
use Rattle.ld_expr.specs.Lookup.{list_from}
use Rattle.ld_expr.specs.Seen.{everyone, member_cell}
use Rattle.ld_state.specs.RunState.{seen_in}
use Rattle.ld_state.specs.StateView.{run_of}
use Rattle.ld_settling.proofs.Gathered.{short_first}
use Rattle.ld_settling.proofs.Reading.{so_err}
use Rattle.ld_settling.proofs.reads.members.read_members.Goals as goal

pub returns-in_err-put-clause-short : goal.returns-in_err-put-clause-short
returns-in_err-put-clause-short c =
    let unit = c.args.reader.now.unit.now in
    let run = run_of c.args.reader.now.state.now in
    so_err c.from_residual.result
    (short_first unit run (Roster ∷ [])
    (list_from (λ r. map (member_cell r) (everyone (seen_in unit run))) (role_number unit c.args.role.now))
    c.args.list.now c.in_err-put.ensures.short)
