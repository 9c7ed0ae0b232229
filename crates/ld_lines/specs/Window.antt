-- What contracts see of the bytes in a buffer, and of what a fill does to them.
use Rattle.std.specs.Prelude.{ℕ, List, ◌++◌, length, slice_range, Option, ◌≡◌, ◌≤◌, ◌+◌}
use Rattle.ld_base.specs.Outside.{piece_then}
use Rattle.ld_lines.specs.Reading.{IsEnd}

-- The line that was cut off last, and the bytes behind it.
pub record Window : Type 0 where
  pub line : List ℕ
  pub held : List ℕ

-- `count` bytes went from the front of what was left behind what was held.
pub record Fills (old : List ℕ) (before : Option (List ℕ)) (count : ℕ) (new : List ℕ) (now : Option (List ℕ)) : Type 0 where
  pub piece : List ℕ
  pub held : new ≡ old ++ piece
  pub counted : length piece ≡ count
  pub left : before ≡ piece_then piece now

-- `count` bytes went from the front of what was left into the bytes from `start` on, and not beyond `stop`. None went only where
-- nothing is left.
abbrev pub TakesInto : ℕ → ℕ → Option (List ℕ) → List ℕ → Option (List ℕ) → ℕ → Type 0
TakesInto start stop before new now count =
    (start + count ≤ stop) × (before ≡ piece_then (slice_range new start (start + count)) now) × (count ≡ 0 → IsEnd now)
