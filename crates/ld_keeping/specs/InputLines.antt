-- Which lines came of a source, of which it is told what it had before and has left now.
use Rattle.std.specs.Prelude.{ℕ, List, [], ◌++◌, ◌≡◌, ◌⊎◌, ◌<◌, ◌≤◌, ◌^◌, length, Option, Some, None}
use Rattle.ld_base.specs.Outside.{piece_then}
use Rattle.ld_lines.specs.Lines.{lines_of, ended_lines_of}
use Rattle.ld_lines.specs.Reading.{IsEnd}

-- These are all its lines: it told its end, below 2^40 bytes.
abbrev pub AreAllLines : Option (List ℕ) → Option (List ℕ) → List (List ℕ) → Type 0
AreAllLines None left lines = Unit {0}
AreAllLines (Some bytes) left lines = (left ≡ Some []) × (length bytes < 2 ^ 40) × (lines ≡ lines_of bytes)

-- These are the lines that a line feed ends in the bytes that were taken, of which there are so many.
abbrev pub AreEndedLines : (ℕ → Type 0) → Option (List ℕ) → Option (List ℕ) → List (List ℕ) → Type 0
AreEndedLines Many before left lines =
    (taken : List ℕ) × (before ≡ piece_then taken left) × Many (length taken) × (lines ≡ ended_lines_of taken)

-- The bytes begin with these lines: they are the first of those that a line feed ends, or, where nothing is left, the
-- first of all.
abbrev pub BeginsWithLines : List ℕ → Option (List ℕ) → List (List ℕ) → Type 0
BeginsWithLines bytes left lines = (rest : List (List ℕ)) × ((ended_lines_of bytes ≡ lines ++ rest) ⊎ (IsEnd left × (lines_of bytes ≡ lines ++ rest)))

-- At most 2^40 bytes were taken, and they begin with these lines.
abbrev pub AreFirstLines : Option (List ℕ) → Option (List ℕ) → List (List ℕ) → Type 0
AreFirstLines before left lines =
    (taken : List ℕ) × (before ≡ piece_then taken left) × (length taken ≤ 2 ^ 40) × BeginsWithLines taken left lines
