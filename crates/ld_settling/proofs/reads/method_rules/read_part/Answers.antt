use Rattle.std.proofs.Common.{◌++◌, length-append, arith}
use Rattle.ld_expr.specs.Looks.{members_looks}
use Rattle.ld_rules.specs.SiteLooks.{cell_list, site_target_looks}
use Rattle.ld_rules.specs.SiteTests.{opening_cell}
use Rattle.ld_state.specs.RunState.{seen_in}
use Rattle.ld_state.specs.StateView.{run_of}
use Rattle.ld_settling.proofs.Gathered.{gathers_both, short_first, short_then}
use Rattle.ld_settling.proofs.Reading.{on_err, on_ok, so_err}
use Rattle.ld_settling.proofs.reads.method_rules.read_part.Goals as goal

pub returns-in_err-read_opened_act-clause-short : goal.returns-in_err-read_opened_act-clause-short
returns-in_err-read_opened_act-clause-short g c =
    let unit = c.args.reader.now.unit.now in
    let run = run_of c.args.reader.now.state.now in
    let part = c.args.part.now in
    so_err c.from_residual.result
    (short_first unit run (cell_list (opening_cell unit c.args.act.now))
    (members_looks unit (seen_in unit run) part.role ++ site_target_looks unit (seen_in unit run) part)
    c.args.list.now c.in_err-read_opened_act.ensures.short)

pub returns-in_err-read_members-clause-short : goal.returns-in_err-read_members-clause-short
returns-in_err-read_members-clause-short g c =
    let unit = c.args.reader.now.unit.now in
    let run = run_of c.args.reader.now.state.now in
    let part = c.args.part.now in
    let members = members_looks unit (seen_in unit run) part.role in
    let target = site_target_looks unit (seen_in unit run) part in
    so_err c.from_residual-in_err-read_members.result
    (short_then unit run (cell_list (opening_cell unit c.args.act.now)) (members ++ target)
    c.args.list.now c.read_opened_act.new.list c.in_ok-read_opened_act.ensures.gathers
    (short_first unit run members target c.read_opened_act.new.list c.in_err-read_members.ensures.short))

pub returns-clause-gathers : goal.returns-clause-gathers
returns-clause-gathers g c =
    let unit = c.args.reader.now.unit.now in
    let run = run_of c.args.reader.now.state.now in
    on_ok c.read_target.result
    (λ third. gathers_both unit run c.in_ok-read_opened_act.ensures.gathers
    (gathers_both unit run c.in_ok-read_members.ensures.gathers third))
    c.read_target.ensures.gathers

pub returns-clause-short : goal.returns-clause-short
returns-clause-short g c =
    let unit = c.args.reader.now.unit.now in
    let run = run_of c.args.reader.now.state.now in
    let part = c.args.part.now in
    let members = members_looks unit (seen_in unit run) part.role in
    let target = site_target_looks unit (seen_in unit run) part in
    on_err c.read_target.result
    (λ third. short_then unit run (cell_list (opening_cell unit c.args.act.now)) (members ++ target)
    c.args.list.now c.read_opened_act.new.list c.in_ok-read_opened_act.ensures.gathers
    (short_then unit run members target c.read_opened_act.new.list c.read_members.new.list
    c.in_ok-read_members.ensures.gathers third))
    c.read_target.ensures.short

pub returns-clause-cost : goal.returns-clause-cost
returns-clause-cost g c =
    let unit = c.args.reader.now.unit.now in
    let run = run_of c.args.reader.now.state.now in
    let part = c.args.part.now in
    let members = members_looks unit (seen_in unit run) part.role in
    let target = site_target_looks unit (seen_in unit run) part in
    omega (
      arith,
      c.read_target.ensures.cost,
      length-append members target,
      length-append (cell_list (opening_cell unit c.args.act.now)) (members ++ target),
    )
