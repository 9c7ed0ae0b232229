-- What a run has taken from the store on the way.
use Rattle.std.specs.Prelude.{◌≡◌, Option, Some, Bool, true, unwrap_or, if◌then◌else◌}
use Rattle.ld_globals.specs.Store.{Key}
use Rattle.ld_value.specs.Datum.{Datum}
use Rattle.ld_model.specs.Cells.{same_cell}
use Rattle.ld_model.specs.declared.cell.CellName.{CellName}
use Rattle.ld_model.specs.declared.unit.Unit.{Unit}
use Rattle.ld_expr.specs.Lookup.{is_some_and}
use Rattle.ld_roles.specs.Roster.{Persons}
use Rattle.ld_state.specs.GlobalValues.{GlobalValues}
use Rattle.ld_state.specs.RunState.{RunState}
use Rattle.ld_sharing.specs.Fitting.{fits_cell}
use Rattle.ld_sharing.specs.Globals.{cell_of_key, store_says}

-- The state, in which each cell of a global property that passes the test has the store's value.
abbrev pub taking_where : (CellName → Bool) → Unit → GlobalValues → RunState → RunState
taking_where test unit store s = record s {
  cells =
      λ cell. if test cell then unwrap_or (store_says unit store s.persons cell) (s.cells cell)
      else s.cells cell;
}

-- The cells that pass the test have the store's values, which fit, and all else is as before.
pub record HasTaken (unit : Unit) (store : GlobalValues) (test : CellName → Bool) (old new : RunState) : Type 0 where
  pub run : new ≡ taking_where test unit store old
  pub fitting :
      (cell : CellName) (value : Option Datum) → test cell ≡ true
      → store_says unit store old.persons cell ≡ Some value → fits_cell unit cell value ≡ true

-- The cell is the run's cell for the key.
abbrev pub is_cell_of_key : Unit → Persons → Key → CellName → Bool
is_cell_of_key unit persons key cell = is_some_and (same_cell cell) (cell_of_key unit persons key.uri key.person)
