-- What contracts see of a text: its bytes, and how many more it takes without asking for memory.
use Rattle.std.specs.Prelude.{ℕ, List, length, ◌+◌, ◌≤◌}

-- The bytes of a text, and how many more have room in the memory that it has.
pub record Roomy : Type 0 where
  pub bytes : List ℕ
  pub spare : ℕ

-- Length and spare room together, which no call that appends or empties makes less.
abbrev pub room_of : Roomy → ℕ
room_of t = length t.bytes + t.spare

-- The room of the text did not shrink.
abbrev pub KeepsRoom : Roomy → Roomy → Type 0
KeepsRoom old new = room_of old ≤ room_of new
