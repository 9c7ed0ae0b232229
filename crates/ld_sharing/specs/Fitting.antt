-- Values of global properties that fit their restrictions.
use Rattle.std.specs.Prelude.{◌≡◌, ℕ, List, Option, Some, None, Bool, true, ◌||◌, not, slice_get}
use Rattle.ld_value.specs.Datum.{Datum}
use Rattle.ld_model.specs.declared.cell.CellName.{CellName}
use Rattle.ld_model.specs.declared.cell.CellName.TheVariants.{Prop}
use Rattle.ld_model.specs.declared.property.Property.{Property}
use Rattle.ld_model.specs.declared.unit.Unit.{Unit}
use Rattle.ld_expr.specs.Lookup.{is_some_and}
use Rattle.ld_expr.specs.Owners.{fits_property, is_global}
use Rattle.ld_roles.specs.Roster.{Persons}
use Rattle.ld_state.specs.GlobalValues.{GlobalValues}
use Rattle.ld_state.specs.RunCells.{stored_value}
use Rattle.ld_state.specs.RunState.{RunState}
use Rattle.ld_sharing.specs.Globals.{store_says}

-- The value, if there is one, fits the property.
abbrev pub fits_if_any : Property → Option Datum → Bool
fits_if_any property None = true
fits_if_any property (Some value) = fits_property property value

-- The value fits the cell, where this is one of a global property.
abbrev pub fits_cell : Unit → CellName → Option Datum → Bool
fits_cell unit (Prop p _) (Some value) =
    is_some_and (λ property. not (is_global property.kind) || fits_property property value) (slice_get unit.properties p.0)
fits_cell unit _ _ = true

-- The run's value of each global property fits it.
abbrev pub HasFittingGlobals : Unit → RunState → Type 0
HasFittingGlobals unit s = (cell : CellName) → fits_cell unit cell (s.cells cell) ≡ true

-- What the store says of the cells of these persons and of the run fits.
abbrev pub TakesFitting : Unit → GlobalValues → Persons → Type 0
TakesFitting unit store persons =
    (cell : CellName) (value : Option Datum) → store_says unit store persons cell ≡ Some value
    → fits_cell unit cell value ≡ true

-- What the store holds of each global property fits, for the person of this name.
abbrev pub BeginsFitting : Unit → GlobalValues → Option (List ℕ) → Type 0
BeginsFitting unit store person =
    (n : ℕ) (property : Property) → slice_get unit.properties n ≡ Some property
    → is_global property.kind ≡ true → fits_if_any property (stored_value store person property) ≡ true
