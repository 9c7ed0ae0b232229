use Rattle.std.proofs.Common.{subst, sym}
use Rattle.ld_model.specs.declared.unit.Unit.{Unit}
use Rattle.ld_expr.specs.Owners.{of_person}
use Rattle.ld_expr.specs.Terms.{property_cell_of}
use Rattle.ld_state.specs.StateView.{run_of}
use Rattle.ld_admission.specs.AdmittedView.{HasPropertyCell}
use Rattle.ld_admission.proofs.NamedParts.{cell_there}
use Rattle.ld_admission.proofs.checker.Checker.own_cell.Goals as goal

pub returns-clause-possible : goal.returns-clause-possible
returns-clause-possible c =
    let unit = c.args.self.now.unit.now in
    let state = c.args.self.now.state.now in
    let of_unit = λ (u : Unit). HasPropertyCell unit (run_of state) (property_cell_of u (of_person c.args.person.0) c.args.number.0 c.args.property.now) in
    rw c.property_cell_of.ensures
    (subst of_unit (sym c.unit.ensures.unit) (cell_there unit state c.args.person.0 c.args.number.0 c.args.property.now c.requires.person c.requires.there))
