use Rattle.std.proofs.Common.{ℕ, List, Option, OnErr, OnOk, flat_map, subst}
use Rattle.ld_model.specs.declared.cell.CellName.{CellName}
use Rattle.ld_expr.specs.Looks.{done_looks}
use Rattle.ld_expr.specs.Lookup.{list_from}
use Rattle.ld_expr.specs.Membership.{members}
use Rattle.ld_expr.specs.Owners.{of_person}
use Rattle.ld_state.specs.RunState.{seen_in}
use Rattle.ld_state.specs.StateView.{run_of}
use Rattle.ld_settling.specs.Gathering.{FallsShort, Gathers}
use Rattle.ld_settling.proofs.reads.members.read_members_marks.Goals as goal

pub returns-in-Some-clause-gathers : goal.returns-in-Some-clause-gathers
returns-in-Some-clause-gathers g c =
    let unit = c.args.reader.now.unit.now in
    let run = run_of c.args.reader.now.state.now in
    let looks : ℕ → List CellName = λ p. done_looks unit (seen_in unit run) (of_person p) c.args.target.now in
    subst
    (λ (number : Option ℕ). OnOk c.read_marks_of_members.result
    (Gathers unit run (flat_map looks (list_from (members (seen_in unit run)) number)) c.args.list.now c.read_marks_of_members.new.list))
    c.in-Some.ensures.number c.read_marks_of_members.ensures.gathers

pub returns-in-Some-clause-short : goal.returns-in-Some-clause-short
returns-in-Some-clause-short g c =
    let unit = c.args.reader.now.unit.now in
    let run = run_of c.args.reader.now.state.now in
    let looks : ℕ → List CellName = λ p. done_looks unit (seen_in unit run) (of_person p) c.args.target.now in
    subst
    (λ (number : Option ℕ). OnErr c.read_marks_of_members.result
    (FallsShort unit run (flat_map looks (list_from (members (seen_in unit run)) number)) c.args.list.now))
    c.in-Some.ensures.number c.read_marks_of_members.ensures.short
