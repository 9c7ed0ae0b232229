-- The values that a run gives the store, key by key, where the store has other ones.
use Rattle.std.specs.Prelude.{ℕ, List, [], ◌∷◌, flat_map, length, Option, option_map, slice_get, if◌then◌else◌}
use Rattle.std.specs.Option.{option_eq}
use Rattle.ld_globals.specs.Store.{Key}
use Rattle.ld_value.specs.Datum.{Datum, datum_of, same_datum}
use Rattle.ld_model.specs.declared.cell.CellName.{CellName}
use Rattle.ld_model.specs.declared.unit.Unit.{Unit}
use Rattle.ld_expr.specs.Lookup.{list_from}
use Rattle.ld_state.specs.GlobalValues.{GlobalValues}
use Rattle.ld_state.specs.RunCells.{all_cells}
use Rattle.ld_state.specs.RunState.{RunState}
use Rattle.ld_sharing.specs.Changes.{key_of_cell}
use Rattle.ld_sharing.specs.declared.giving.Write.{Write}

-- A key of the store, and the value that it gets.
pub record GivenValue : Type 0 where
  pub uri : List ℕ
  pub person : Option (List ℕ)
  pub value : Option Datum

-- The key of a write of the program, and the value that it gets.
abbrev pub given_by : Write → GivenValue
given_by write = record {
  uri = write.uri.now.bytes;
  person = write.person;
  value = option_map datum_of write.value;
}

-- The value, where the store has another one.
abbrev pub where_other : GlobalValues → GivenValue → List GivenValue
where_other store given =
    if option_eq same_datum (store given.uri given.person) given.value then [] else given ∷ []

-- The value under the key.
abbrev pub given_as : Option Datum → Key → GivenValue
given_as value key = record { uri = key.uri; person = key.person; value = value }

-- The value of the cell, where the cell has a key and the store has another value of it.
abbrev pub other_of_cell : GlobalValues → Unit → RunState → CellName → List GivenValue
other_of_cell store unit s cell =
    list_from (λ key. where_other store (given_as (s.cells cell) key)) (key_of_cell unit s.persons cell)

-- The same of the cell that has this slot.
abbrev pub other_in_slot : GlobalValues → Unit → RunState → ℕ → List GivenValue
other_in_slot store unit s slot =
    list_from (other_of_cell store unit s) (slice_get (all_cells unit (length s.persons)) slot)

-- All such values of cells with these slots, in the order of the slots.
abbrev pub other_values : GlobalValues → Unit → RunState → List ℕ → List GivenValue
other_values store unit s slots = flat_map (other_in_slot store unit s) slots
