use Rattle.std.proofs.Common.{◌∙◌, ◌∷◌, ap, append_assoc}
use Rattle.ld_model.specs.Counting.{each_numbered}
use Rattle.ld_model.specs.declared.cell.CellName.TheVariants.{Now, Roster, Started}
use Rattle.ld_names.specs.Names.{NameTable}
use Rattle.ld_names.specs.Rules.{rules_of}
use Rattle.ld_names.specs.Things.{things_of}
use Rattle.ld_state.specs.RunCells.{opening_cells, run_mark_cells, run_property_cells}
use Rattle.ld_state.proofs.Unnamed.{openings_kept}
use Rattle.ld_state.proofs.listed.run_cells.Goals as goal

pub returns : goal.returns
returns c =
    let unit = c.args.unit.now in
    let kept = openings_kept unit c.args.names.now c.things.result.now c.requires c.things.ensures.places c.things.ensures.shown in
    let ruled = c.rules.ensures ∙ ap (λ (table : NameTable). table.rules) c.requires in
    let values = each_numbered (run_property_cells unit) unit.properties in
    let openings = each_numbered opening_cells (things_of unit) in
    rw (c.in_ok-push_run_marks.ensures, ruled, c.in_ok-push_openings.ensures, kept, c.in_ok-push_run_properties.ensures, c.in_ok-push-3.ensures.items, c.in_ok-push-2.ensures.items, c.in_ok-push.ensures.items, c.new-cells.ensures.items)
    (append_assoc (Started ∷ Now ∷ Roster ∷ values) openings (each_numbered run_mark_cells (rules_of unit)))
