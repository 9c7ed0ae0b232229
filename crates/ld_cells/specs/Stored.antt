-- What contracts see of the cells of a run's state.
use Rattle.std.specs.Prelude.{ℕ, List, map, Option, Some, None, length, slice_index_or, slice_set, option_map, ◌+◌, ◌≤◌, ◌≡◌}
use Rattle.ld_value.specs.Datum.{Datum, datum_of}
use Rattle.ld_value.specs.declared.value.Value.{Value}

-- What `undo` gives back: the cells at the savepoint, and the spare there.
pub record Kept : Type 0 where
  pub cells : List (Option Datum)
  pub spare : ℕ

-- The cells by slot, each with a value or none; what is kept at the savepoint, if there is one; how many
-- writes, and how many more cells, are sure not to be refused.
pub record Stored : Type 0 where
  pub cells : List (Option Datum)
  pub kept : Option Kept
  pub spare : ℕ
  pub room : ℕ

-- What a cell holds means: the datum of its value, if it has one.
abbrev pub held : Option Value → Option Datum
held cell = option_map datum_of cell

-- What cells hold means, slot by slot.
abbrev pub cells_of : List (Option Value) → List (Option Datum)
cells_of values = map held values

-- What the slot holds.
abbrev pub held_at : List (Option Datum) → ℕ → Option Datum
held_at cells slot = slice_index_or cells slot None

-- The slot holds this value, or none.
abbrev pub IsHeldAt : List (Option Datum) → ℕ → Option Value → Type 0
IsHeldAt cells slot value = held_at cells slot ≡ held value

-- What these cells hold once the value, or none, is written to the slot.
abbrev pub with_value : List (Option Datum) → ℕ → Option Value → List (Option Datum)
with_value cells slot value = slice_set cells slot (held value)

-- The same cells with a savepoint, at which they and the spare are kept.
abbrev pub marked_cells : Stored → Stored
marked_cells s = record s { kept = Some (record { cells = s.cells; spare = s.spare }) }

-- The number of cells and the room for more together, which no call makes less.
abbrev pub room_of_cells : Stored → ℕ
room_of_cells s = length s.cells + s.room

-- The room for cells did not shrink.
abbrev pub KeepsCellRoom : Stored → Stored → Type 0
KeepsCellRoom old new = room_of_cells old ≤ room_of_cells new
