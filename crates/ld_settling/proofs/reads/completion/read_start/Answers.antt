use Rattle.std.proofs.Common.{◌∷◌, []}
use Rattle.ld_model.specs.declared.cell.CellName.TheVariants.{Now}
use Rattle.ld_rules.specs.SiteLooks.{cell_list}
use Rattle.ld_state.specs.StateView.{run_of}
use Rattle.ld_settling.proofs.Gathered.{gathers_both, short_first, short_then}
use Rattle.ld_settling.proofs.Reading.{on_err, on_ok, so_err}
use Rattle.ld_settling.proofs.reads.completion.read_start.Goals as goal

pub returns-in_err-put_if-clause-short : goal.returns-in_err-put_if-clause-short
returns-in_err-put_if-clause-short c =
    so_err c.from_residual.result
    (short_first c.args.reader.now.unit.now (run_of c.args.reader.now.state.now) (cell_list c.args.start) (Now ∷ [])
    c.args.list.now c.in_err-put_if.ensures.short)

pub returns-clause-gathers : goal.returns-clause-gathers
returns-clause-gathers c =
    on_ok c.put.result
    (gathers_both c.args.reader.now.unit.now (run_of c.args.reader.now.state.now) c.in_ok-put_if.ensures.gathers)
    c.put.ensures.gathers

pub returns-clause-short : goal.returns-clause-short
returns-clause-short c =
    on_err c.put.result
    (short_then c.args.reader.now.unit.now (run_of c.args.reader.now.state.now) (cell_list c.args.start) (Now ∷ [])
    c.args.list.now c.put_if.new.list c.in_ok-put_if.ensures.gathers)
    c.put.ensures.short
