use Rattle.std.proofs.Common.{◌≡◌, ◌∙◌, ap, refl, subst, sym, option_copied, IfSome, Ok, Some}
use Rattle.ld_cells.specs.Stored.{held}
use Rattle.ld_globals.specs.Store.{IsWritable, key_at, value_at}
use Rattle.ld_model.specs.Cells.{same_cell}
use Rattle.ld_expr.specs.Seen.{property_cell}
use Rattle.ld_state.specs.StateView.{run_of}
use Rattle.ld_state.proofs.Written.{on_ok}
use Rattle.ld_firing.proofs.Told.{told_if_set, tells_nothing}
use Rattle.ld_sharing.specs.Readable.{is_person}
use Rattle.ld_sharing.specs.StoreView.{values_of}
use Rattle.ld_sharing.specs.Taken.{HasTaken}
use Rattle.ld_sharing.proofs.TakenOnly.{taken_if_set}
use Rattle.ld_sharing.proofs.TakingCells.{kept_cell, taken_cell}
use Rattle.ld_sharing.proofs.TakingKeys.{cell_fits, readable_for, said_for, value_cell}
use Rattle.ld_sharing.proofs.taken_value.take_value.Goals as goal

pub other_value-requires : goal.other_value-requires
other_value-requires g c =
    readable_for c.args.unit.now c.args.globals.now c.args.property.0 c.args.uri.now.bytes c.args.owner c.requires.shared
    c.args.state.now.rows (option_copied c.name_of-name.result) c.requires.owner c.name_of-name.ensures

pub returns-in_default-clause-taken : goal.returns-in_default-clause-taken
returns-in_default-clause-taken g c =
    let unit = c.args.unit.now in
    let store = c.args.globals.now in
    let n = c.args.property.0 in
    let uri = c.args.uri.now.bytes in
    let owner = c.args.owner in
    let name = option_copied c.name_of-name.result in
    let value = value_at store (key_at uri name) in
    kept_cell unit (values_of store) (property_cell n owner) (run_of c.args.state.now) value
    (said_for unit store n uri owner c.requires.shared c.args.state.now.rows name c.requires.owner c.name_of-name.ensures)
    (cell_fits unit store n uri (is_person owner) c.requires.shared owner name value c.in_ok-value.ensures.writable)
    (c.in_ok-value.ensures.same (ap Ok c.in_default.is))

pub returns-in_default-clause-told : goal.returns-in_default-clause-told
returns-in_default-clause-told g c =
    tells_nothing c.args.unit.now (run_of c.args.state.now) c.args.changed.now.items

pub set-requires-clause-cell : goal.set-requires-clause-cell
set-requires-clause-cell g c =
    value_cell c.args.unit.now c.args.globals.now c.args.property.0 c.args.uri.now.bytes c.args.owner c.requires.shared
    c.args.state.now c.requires.own c.requires.owner

pub returns-clause-taken : goal.returns-clause-taken
returns-clause-taken g c =
    let unit = c.args.unit.now in
    let store = c.args.globals.now in
    let n = c.args.property.0 in
    let uri = c.args.uri.now.bytes in
    let owner = c.args.owner in
    let cell = property_cell n owner in
    let s = run_of c.args.state.now in
    let name = option_copied c.name_of-name.result in
    let new = held c.in-Some.value in
    let is : new ≡ value_at store (key_at uri name) =
    subst (λ other. IfSome other (λ value. held value ≡ value_at store (key_at uri name))) c.in-Some.is c.in_ok-value.ensures.other in
    let said = said_for unit store n uri owner c.requires.shared c.args.state.now.rows name c.requires.owner c.name_of-name.ensures ∙ ap Some (sym is) in
    let fits = cell_fits unit store n uri (is_person owner) c.requires.shared owner name new
    (subst (IsWritable store (key_at uri name)) (sym is) c.in_ok-value.ensures.writable) in
    on_ok c.set.result c.set.ensures.run (λ run.
    subst (HasTaken unit (values_of store) (λ one. same_cell one cell) s) (sym run)
    (taken_cell unit (values_of store) cell s new said fits))

pub returns-clause-told : goal.returns-clause-told
returns-clause-told g c =
    told_if_set c.set.result c.args.unit.now c.args.state.now c.set.new.self c.args.changed.now.items c.set.new.changed.items
    (property_cell c.args.property.0 c.args.owner) (held c.in-Some.value) (λ rule owner. refl) c.requires.own
    c.set.ensures.run c.set.ensures.same c.set.ensures.changed

pub returns-clause-only : goal.returns-clause-only
returns-clause-only g c =
    let unit = c.args.unit.now in
    let store = c.args.globals.now in
    let n = c.args.property.0 in
    let uri = c.args.uri.now.bytes in
    let owner = c.args.owner in
    let name = option_copied c.name_of-name.result in
    let new = held c.in-Some.value in
    let is : new ≡ value_at store (key_at uri name) =
    subst (λ other. IfSome other (λ value. held value ≡ value_at store (key_at uri name))) c.in-Some.is c.in_ok-value.ensures.other in
    taken_if_set c.set.result unit (values_of store) c.args.state.now c.set.new.self c.args.changed.now.items c.set.new.changed.items
    (property_cell n owner) new c.requires.own
    (said_for unit store n uri owner c.requires.shared c.args.state.now.rows name c.requires.owner c.name_of-name.ensures ∙ ap Some (sym is))
    c.set.ensures.run c.set.ensures.same c.set.ensures.changed
