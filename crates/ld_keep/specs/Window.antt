-- What contracts see of the bytes of a file that are held.
use Rattle.std.specs.Prelude.{ℕ, ◌+◌, ◌-◌, ◌≤◌, List, length, take, drop, ◌≡◌}

-- Bytes of a file, and the place at which they start.
pub record WindowState : Type 0 where
  pub start : ℕ
  pub held : List ℕ

-- They are the bytes of this file.
abbrev pub IsOfFile : WindowState → List ℕ → Type 0
IsOfFile w file = w.held ≡ take (length w.held) (drop w.start file)

-- So many bytes from a place on are among them.
abbrev pub Holds : WindowState → ℕ → ℕ → Type 0
Holds w place count = (w.start ≤ place) × (place + count ≤ w.start + length w.held)

-- Those bytes.
abbrev pub held_at : WindowState → ℕ → ℕ → List ℕ
held_at w place count = take count (drop (place - w.start) w.held)
