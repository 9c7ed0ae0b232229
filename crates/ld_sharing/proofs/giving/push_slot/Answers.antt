use Rattle.std.proofs.Common.{◌≡◌, ◌∙◌, ◌++◌, [], ap, append-nil, arith, map, subst, sym, length, slice_get, IfNone, IfSome, Option, Some, None}
use Rattle.ld_base.specs.Maybe.{◌>>=◌}
use Rattle.ld_globals.specs.Store.{Key}
use Rattle.ld_expr.specs.Lookup.{list_from}
use Rattle.ld_expr.specs.Seen.{property_cell}
use Rattle.ld_model.specs.declared.cell.CellName.{CellName}
use Rattle.ld_state.specs.RunCells.{all_cells}
use Rattle.ld_state.specs.StateView.{run_of}
use Rattle.ld_state.proofs.Written.{on_ok}
use Rattle.ld_sharing.specs.Changes.{count_of, key_in_slot, key_of_cell}
use Rattle.ld_sharing.specs.GivenValues.{given_as, given_by, other_of_cell, where_other}
use Rattle.ld_sharing.specs.StoreView.{values_of}
use Rattle.ld_sharing.proofs.PushedCells.{count_first, property_there, slot_here}
use Rattle.ld_sharing.proofs.giving.push_slot.Goals as goal

pub returns-in_default-clause-writes : goal.returns-in_default-clause-writes
returns-in_default-clause-writes g c =
    let unit = c.args.unit.now in
    let s = run_of c.args.state.now in
    let before = map given_by c.args.writes.now.items in
    let here = sym (slot_here unit c.args.state.now c.requires.own c.args.slot) ∙ sym c.cell_at.ensures in
    sym (append-nil before)
    ∙ ap (λ (found : Option CellName). before ++ list_from (other_of_cell (values_of c.args.globals.now) unit s) found)
    (sym (here ∙ c.in_default.is))

pub push_cell-requires-clause-there : goal.push_cell-requires-clause-there
push_cell-requires-clause-there g c =
    let unit = c.args.unit.now in
    let s = run_of c.args.state.now in
    let before = map given_by c.args.writes.now.items in
    let here = sym (slot_here unit c.args.state.now c.requires.own c.args.slot) ∙ sym c.cell_at.ensures in
    let one = c.in-Some-property_in.found in
    let is : c.in-Some.cell ≡ property_cell one.0.0 one.1 =
    subst (λ found. IfSome found (λ it. c.in-Some.cell ≡ property_cell it.0.0 it.1)) c.in-Some-property_in.is c.property_in.ensures.some in
    let at : slice_get (all_cells unit (length s.persons)) c.args.slot ≡ Some (property_cell one.0.0 one.1) =
    here ∙ c.in-Some.is ∙ ap Some is in
    property_there unit one.0.0 (length s.persons) c.args.slot one.1 at

pub returns-clause-writes : goal.returns-clause-writes
returns-clause-writes g c =
    let unit = c.args.unit.now in
    let s = run_of c.args.state.now in
    let before = map given_by c.args.writes.now.items in
    let here = sym (slot_here unit c.args.state.now c.requires.own c.args.slot) ∙ sym c.cell_at.ensures in
    let one = c.in-Some-property_in.found in
    let is : c.in-Some.cell ≡ property_cell one.0.0 one.1 =
    subst (λ found. IfSome found (λ it. c.in-Some.cell ≡ property_cell it.0.0 it.1)) c.in-Some-property_in.is c.property_in.ensures.some in
    let at : slice_get (all_cells unit (length s.persons)) c.args.slot ≡ Some (property_cell one.0.0 one.1) =
    here ∙ c.in-Some.is ∙ ap Some is in
    on_ok c.push_cell.result c.push_cell.ensures.writes
    (λ added. added
    ∙ ap (λ (found : Option CellName). before ++ list_from (other_of_cell (values_of c.args.globals.now) unit s) found) (sym at))

pub returns-clause-cost : goal.returns-clause-cost
returns-clause-cost g c =
    let unit = c.args.unit.now in
    let s = run_of c.args.state.now in
    let before = map given_by c.args.writes.now.items in
    let here = sym (slot_here unit c.args.state.now c.requires.own c.args.slot) ∙ sym c.cell_at.ensures in
    let one = c.in-Some-property_in.found in
    let is : c.in-Some.cell ≡ property_cell one.0.0 one.1 =
    subst (λ found. IfSome found (λ it. c.in-Some.cell ≡ property_cell it.0.0 it.1)) c.in-Some-property_in.is c.property_in.ensures.some in
    let at : slice_get (all_cells unit (length s.persons)) c.args.slot ≡ Some (property_cell one.0.0 one.1) =
    here ∙ c.in-Some.is ∙ ap Some is in
    omega (
      arith,
      c.push_cell.ensures.cost,
      count_first (key_in_slot unit s.persons c.args.slot) [],
      ap (λ (found : Option CellName). count_of (found >>= key_of_cell unit s.persons)) at,
    )

pub returns-clause-idle : goal.returns-clause-idle
returns-clause-idle g c =
    let unit = c.args.unit.now in
    let s = run_of c.args.state.now in
    let before = map given_by c.args.writes.now.items in
    let here = sym (slot_here unit c.args.state.now c.requires.own c.args.slot) ∙ sym c.cell_at.ensures in
    let one = c.in-Some-property_in.found in
    let is : c.in-Some.cell ≡ property_cell one.0.0 one.1 =
    subst (λ found. IfSome found (λ it. c.in-Some.cell ≡ property_cell it.0.0 it.1)) c.in-Some-property_in.is c.property_in.ensures.some in
    let at : slice_get (all_cells unit (length s.persons)) c.args.slot ≡ Some (property_cell one.0.0 one.1) =
    here ∙ c.in-Some.is ∙ ap Some is in
    λ none. c.push_cell.ensures.idle
    (sym (ap (λ (found : Option CellName). list_from (other_of_cell (values_of c.args.globals.now) unit s) found) at) ∙ none)

pub returns-in_default-property_in-clause-writes : goal.returns-in_default-property_in-clause-writes
returns-in_default-property_in-clause-writes g c =
    let unit = c.args.unit.now in
    let s = run_of c.args.state.now in
    let before = map given_by c.args.writes.now.items in
    let values = values_of c.args.globals.now in
    let here = sym (slot_here unit c.args.state.now c.requires.own c.args.slot) ∙ sym c.cell_at.ensures in
    let none : key_of_cell unit s.persons c.in-Some.cell ≡ None =
    subst (λ found. IfNone found (key_of_cell unit s.persons c.in-Some.cell ≡ None)) c.in_default-property_in.is
    (c.property_in.ensures.none unit s.persons) in
    sym (append-nil before)
    ∙ ap (λ (found : Option Key). before ++ list_from (λ key. where_other values (given_as (s.cells c.in-Some.cell) key)) found) (sym none)
    ∙ ap (λ (found : Option CellName). before ++ list_from (other_of_cell values unit s) found) (sym (here ∙ c.in-Some.is))
