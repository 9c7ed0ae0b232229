use Rattle.std.proofs.Common.{ℕ, ◌+◌, ◌-◌, arith, List}
use Rattle.std.specs.List.{range_with_len}
use Rattle.ld_model.specs.declared.cell.CellName.{CellName}
use Rattle.ld_expr.specs.Looks.{done_looks}
use Rattle.ld_expr.specs.Membership.{is_member}
use Rattle.ld_expr.specs.Owners.{of_person}
use Rattle.ld_state.specs.RunState.{seen_in}
use Rattle.ld_state.specs.StateView.{run_of}
use Rattle.ld_settling.specs.Gathering.{cells_if}
use Rattle.ld_settling.proofs.Gathered.{falls_short, gathers_on, next_member, of_members, range_counted}
use Rattle.ld_settling.proofs.Reading.{so_err}
use Rattle.ld_settling.proofs.reads.members.read_marks_of_members.Goals as goal

pub returns-in_err-read_mark_of-clause-short : goal.returns-in_err-read_mark_of-clause-short
returns-in_err-read_mark_of-clause-short g c =
    let unit = c.args.reader.now.unit.now in
    let seen = seen_in unit (run_of c.args.reader.now.state.now) in
    let looks : ℕ → List CellName = λ p. done_looks unit seen (of_person p) c.args.target.now in
    let member = is_member seen c.args.role.0 in
    let i = c.loop-number.number in
    let end = c.persons-number-end.result in
    so_err c.from_residual.result
    (falls_short (cells_if (member i) (looks i)) (of_members looks member (range_with_len (i + 1) (end - (i + 1)))) c.loop-number.invariant.0
    (next_member looks member i end c.loop-number-test.true) c.in_err-read_mark_of.ensures.short)

pub returns-in_err-read_mark_of-clause-cost : goal.returns-in_err-read_mark_of-clause-cost
returns-in_err-read_mark_of-clause-cost g c =
    let counted = range_counted c.loop-number.number c.persons-number-end.result c.loop-number-test.true in
    omega (arith, counted, c.read_mark_of.ensures.cost, c.loop-number.invariant.1)

pub loop-number-preserved : goal.loop-number-preserved
loop-number-preserved g c =
    let unit = c.args.reader.now.unit.now in
    let seen = seen_in unit (run_of c.args.reader.now.state.now) in
    let looks : ℕ → List CellName = λ p. done_looks unit seen (of_person p) c.args.target.now in
    let member = is_member seen c.args.role.0 in
    let i = c.loop-number.number in
    let end = c.persons-number-end.result in
    let counted = range_counted i end c.loop-number-test.true in (
      gathers_on (cells_if (member i) (looks i)) (of_members looks member (range_with_len (i + 1) (end - (i + 1)))) c.loop-number.invariant.0
          (next_member looks member i end c.loop-number-test.true) c.in_ok-read_mark_of.ensures.gathers,
      omega (arith, counted, c.read_mark_of.ensures.cost, c.loop-number.invariant.1),
    )
