use Rattle.std.proofs.Common.{◌∙◌, ◌++◌, ap, append_assoc, map}
use Rattle.ld_base.specs.Numbers.{numbers_below}
use Rattle.ld_expr.specs.Seen.{member_cell}
use Rattle.ld_model.specs.Counting.{each_numbered}
use Rattle.ld_names.specs.Names.{NameTable}
use Rattle.ld_names.specs.Rules.{rules_of}
use Rattle.ld_names.specs.Things.{things_of}
use Rattle.ld_state.specs.RunCells.{own_mark_cells, own_property_cells, own_thing_cells}
use Rattle.ld_state.proofs.Owned.{roles_named}
use Rattle.ld_state.proofs.Unnamed.{own_things_kept}
use Rattle.ld_state.proofs.listed.own_cells.Goals as goal

pub returns : goal.returns
returns c =
    let unit = c.args.unit.now in
    let names = c.args.names.now in
    let kept = own_things_kept unit names c.things.result.now c.requires c.things.ensures.places c.things.ensures.shown in
    let count = roles_named unit names c.role_count.result c.requires c.role_count.ensures in
    let ruled = c.rules.ensures ∙ ap (λ (table : NameTable). table.rules) c.requires in
    let values = each_numbered (own_property_cells unit 0) unit.properties in
    let things = each_numbered (own_thing_cells 0) (things_of unit) in
    let members = map (λ role. member_cell role 0) (numbers_below c.role_count.result) in
    let marks = each_numbered (own_mark_cells 0) (rules_of unit) in
    rw (c.in_ok-push_own_marks.ensures, ruled, c.in_ok-push_members.ensures, c.in_ok-push_own_things.ensures, kept, c.in_ok-push_own_properties.ensures, c.new-cells.ensures.items)
    (append_assoc (values ++ things) members marks ∙ append_assoc values things (members ++ marks)
    ∙ ap (λ n. values ++ (things ++ (map (λ role. member_cell role 0) (numbers_below n) ++ marks))) count)
