-- How large a unit is, by the nodes that its trees may show.
use Rattle.std.specs.Prelude.{ℕ}
use Rattle.ld_model.specs.declared.unit.Unit.{Unit}
use Rattle.ld_parts.specs.Listing.{parts_of}
use Rattle.ld_names.specs.Names.{names_of}
use Rattle.ld_refs.specs.Extents.{sizes_of, unit_size}

-- How many nodes the unit expands to. (docs/FORMATS.md, "Sizes")
abbrev pub nodes_of : Unit → ℕ
nodes_of unit = unit_size unit (sizes_of unit (names_of unit)) (names_of unit) (parts_of unit)
