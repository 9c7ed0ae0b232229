-- What a run tells that takes values of the store, and that it tells no more.
use Rattle.std.specs.Prelude.{◌≡◌, ◌⊎◌, ℕ, List, length, Option, Some, Contains, slice_get}
use Rattle.ld_value.specs.Datum.{Datum}
use Rattle.ld_model.specs.declared.cell.CellName.{CellName}
use Rattle.ld_model.specs.declared.unit.Unit.{Unit}
use Rattle.ld_firing.specs.RunSystem.{content_of}
use Rattle.ld_roles.specs.Roster.{Persons}
use Rattle.ld_state.specs.GlobalValues.{GlobalValues}
use Rattle.ld_state.specs.RunCells.{all_cells}
use Rattle.ld_state.specs.RunState.{RunState}
use Rattle.ld_sharing.specs.Globals.{store_says}

-- From one state to the next no more was told than slots whose cells have other values now.
abbrev pub TellsOnly : Unit → RunState → RunState → List ℕ → List ℕ → Type 0
TellsOnly unit s t before told =
    (k : ℕ) → Contains told k → Contains before k ⊎ (content_of unit s k ≡ content_of unit t k → ⊥)

-- The cell that has this slot has the store's value now, and had another one.
pub record IsTaken (unit : Unit) (store : GlobalValues) (persons : Persons) (s t : RunState) (slot : ℕ) : Type 0 where
  pub cell : CellName
  pub at : slice_get (all_cells unit (length persons)) slot ≡ Some cell
  pub value : Option Datum
  pub said : store_says unit store persons cell ≡ Some value
  pub new : t.cells cell ≡ value
  pub old : s.cells cell ≡ value → ⊥

-- No more was told than slots of such cells.
abbrev pub TellsTaken : Unit → GlobalValues → Persons → RunState → RunState → List ℕ → List ℕ → Type 0
TellsTaken unit store persons s t before told =
    (k : ℕ) → Contains told k → Contains before k ⊎ IsTaken unit store persons s t k
