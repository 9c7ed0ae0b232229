-- All faults of a unit beyond the shapes of its documents, check by check, each over the whole unit in
-- document order. (docs/FORMATS.md, "Order of faults")
use Rattle.std.specs.Prelude.{◌≡◌, ℕ, List, [], ◌++◌, true, false}
use Rattle.ld_formats.specs.Units.{is_well_formed}
use Rattle.ld_json.specs.Fault.{Told}
use Rattle.ld_model.specs.declared.unit.Unit.{Unit}
use Rattle.ld_parts.specs.Listing.{parts_of}
use Rattle.ld_names.specs.Names.{NameTable, names_of}
use Rattle.ld_walk.specs.Parts.{Part}
use Rattle.ld_refs.specs.Bounds.{level_faults, profile_faults, object_limit_faults, count_faults, leaves_in}
use Rattle.ld_refs.specs.Extents.{size_faults}
use Rattle.ld_refs.specs.Reaching.{cycle_faults}
use Rattle.ld_refs.specs.declared.checks.repeats.Texts.TheVariants.{Identifiers, Uris}
use Rattle.ld_refs.specs.Repeats.{repeated_faults}
use Rattle.ld_refs.specs.Targets.{target_faults}
use Rattle.ld_types.specs.Typing.{type_faults}

-- References name what they should, nothing reaches itself, levels, what is left out, types.
unfoldable pub meaning_faults : Unit → NameTable → List Part → List Told
meaning_faults unit names parts =
    target_faults names parts
    ++ (cycle_faults unit names ++ (level_faults unit.level parts ++ (profile_faults parts ++ type_faults unit names parts)))

-- The limits of objects, then of rules and leaves, then of sizes.
unfoldable pub amount_faults : Unit → NameTable → List Part → List Told
amount_faults unit names parts = object_limit_faults parts ++ (count_faults names parts ++ size_faults unit names parts)

-- Identifiers differ, and the names of what all runs share.
unfoldable pub text_faults : List Part → List Told
text_faults parts = repeated_faults Identifiers parts ++ repeated_faults Uris parts

-- The faults of a unit, in the order of the checks.
unfoldable pub check_faults : Unit → List Told
check_faults unit =
    text_faults (parts_of unit)
    ++ (meaning_faults unit (names_of unit) (parts_of unit) ++ amount_faults unit (names_of unit) (parts_of unit))

-- Each member of the unit has its form, and no check finds a fault in it.
pub record IsValid (unit : Unit) : Type 0 where
  pub formed : is_well_formed unit ≡ true
  pub faultless : check_faults unit ≡ []

-- How many leaves the unit's expressions have.
abbrev pub leaves_of : Unit → ℕ
leaves_of unit = leaves_in false (parts_of unit)

-- What contracts see of a checked unit.
pub record CheckedUnit : Type 0 where
  pub unit : Unit
  pub names : NameTable
  pub leaves : ℕ
