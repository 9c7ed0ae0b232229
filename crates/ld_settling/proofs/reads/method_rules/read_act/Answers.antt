use Rattle.ld_rules.specs.SiteLooks.{cell_list, completion_looks_if}
use Rattle.ld_rules.specs.SiteTests.{act_completing, opening_cell}
use Rattle.ld_state.specs.RunState.{seen_in}
use Rattle.ld_state.specs.StateView.{run_of}
use Rattle.ld_settling.proofs.Gathered.{gathers_both, short_first, short_then}
use Rattle.ld_settling.proofs.Reading.{on_err, on_ok, so_err}
use Rattle.ld_settling.proofs.reads.method_rules.read_act.Goals as goal

pub returns-in_err-read_opened_act-clause-short : goal.returns-in_err-read_opened_act-clause-short
returns-in_err-read_opened_act-clause-short g c =
    let unit = c.args.reader.now.unit.now in
    let run = run_of c.args.reader.now.state.now in
    let act = c.args.act.now in
    so_err c.from_residual.result
    (short_first unit run (cell_list (opening_cell unit act))
    (completion_looks_if unit (seen_in unit run) (act_completing unit act) act.complete)
    c.args.list.now c.in_err-read_opened_act.ensures.short)

pub returns-clause-gathers : goal.returns-clause-gathers
returns-clause-gathers g c =
    on_ok c.read_completion.result
    (gathers_both c.args.reader.now.unit.now (run_of c.args.reader.now.state.now) c.in_ok-read_opened_act.ensures.gathers)
    (rw (← c.completing_act.ensures) c.read_completion.ensures.gathers)

pub returns-clause-short : goal.returns-clause-short
returns-clause-short g c =
    let unit = c.args.reader.now.unit.now in
    let run = run_of c.args.reader.now.state.now in
    let act = c.args.act.now in
    on_err c.read_completion.result
    (short_then unit run (cell_list (opening_cell unit act))
    (completion_looks_if unit (seen_in unit run) (act_completing unit act) act.complete)
    c.args.list.now c.read_opened_act.new.list c.in_ok-read_opened_act.ensures.gathers)
    (rw (← c.completing_act.ensures) c.read_completion.ensures.short)
