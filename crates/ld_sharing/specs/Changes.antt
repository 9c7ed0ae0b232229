-- Which values a run may have that the store has not, by the slots of its cells.
use Rattle.std.specs.Prelude.{◌≡◌, ℕ, List, length, filter_map, Option, Some, None, Contains, slice_get}
use Rattle.ld_base.specs.Maybe.{◌>>=◌}
use Rattle.ld_globals.specs.Store.{Key, Store, key_at, value_at}
use Rattle.ld_model.specs.Properties.{is_personal}
use Rattle.ld_model.specs.declared.cell.CellName.{CellName}
use Rattle.ld_model.specs.declared.cell.CellName.TheVariants.{Prop, Vis, Member, Chosen, Opened, ActOpened, Started, Mark, Now, Roster}
use Rattle.ld_model.specs.declared.unit.Unit.{Unit}
use Rattle.ld_roles.specs.Roster.{Persons}
use Rattle.ld_state.specs.RunCells.{all_cells, slot_of}
use Rattle.ld_state.specs.RunState.{RunState}
use Rattle.ld_sharing.specs.Globals.{cell_of_key, store_person}

-- The key under which the store has the cell's value. Only cells of global properties have one: no other
-- property has a uri.
abbrev pub key_of_cell : Unit → Persons → CellName → Option Key
key_of_cell unit persons (Prop p owner) = do
  property ← slice_get unit.properties p.0
  uri ← property.uri
  person ← store_person persons (is_personal property.kind) owner
  Some (key_at uri person)
key_of_cell unit persons (Vis _ _) = None
key_of_cell unit persons (Member _ _) = None
key_of_cell unit persons (Chosen _ _) = None
key_of_cell unit persons (Opened _ _) = None
key_of_cell unit persons (ActOpened _) = None
key_of_cell unit persons Started = None
key_of_cell unit persons (Mark _ _) = None
key_of_cell unit persons Now = None
key_of_cell unit persons Roster = None

-- How many values there are: one or none.
abbrev pub count_of : {A : Type 0} → Option A → ℕ
count_of None = 0
count_of (Some _) = 1

-- One where the cell has a key, and else none.
abbrev pub keys_of_cell : Unit → Persons → CellName → ℕ
keys_of_cell unit persons cell = count_of (key_of_cell unit persons cell)

-- The key of the cell that has this slot.
abbrev pub key_in_slot : Unit → Persons → ℕ → Option Key
key_in_slot unit persons slot = slice_get (all_cells unit (length persons)) slot >>= key_of_cell unit persons

-- How many of these slots are those of cells that have a key.
abbrev pub shared_slots : Unit → Persons → List ℕ → ℕ
shared_slots unit persons slots = length (filter_map (key_in_slot unit persons) slots)

-- Each cell of the run that has a key has the store's value of that key, unless its slot is one of these.
abbrev pub IsGivenBut : Unit → RunState → Store → List ℕ → Type 0
IsGivenBut unit s store slots =
    (uri : List ℕ) (person : Option (List ℕ)) (cell : CellName)
    → cell_of_key unit s.persons uri person ≡ Some cell
    → ((slot : ℕ) → slot_of unit (length s.persons) cell ≡ Some slot → Contains slots slot → ⊥)
    → s.cells cell ≡ value_at store (key_at uri person)
