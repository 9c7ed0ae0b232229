-- Runs that have the store's values as of a stamp.
use Rattle.std.specs.Prelude.{◌≡◌, ◌≤◌, ℕ, List, Option, Some, false}
use Rattle.std.specs.List.{count_by}
use Rattle.ld_globals.specs.Store.{Store, comes_after, key_at, value_at, written_since}
use Rattle.ld_model.specs.declared.cell.CellName.{CellName}
use Rattle.ld_model.specs.declared.unit.Unit.{Unit}
use Rattle.ld_state.specs.RunState.{RunState}
use Rattle.ld_sharing.specs.Globals.{cell_of_key}

-- The store has come to the stamp. Each cell of the run that has a key in the store has the value of that key,
-- unless the key was written since the stamp.
pub record IsCurrentAsOf (unit : Unit) (s : RunState) (stamp : ℕ) (store : Store) : Type 0 where
  pub passed : stamp ≤ store.stamp
  pub values :
      (uri : List ℕ) (person : Option (List ℕ)) (cell : CellName)
      → cell_of_key unit s.persons uri person ≡ Some cell → written_since store stamp (key_at uri person) ≡ false
      → s.cells cell ≡ value_at store (key_at uri person)

-- How many keys were written since the stamp.
abbrev pub written_count : Store → ℕ → ℕ
written_count store stamp = count_by (λ entry. comes_after stamp entry.1) store.written
