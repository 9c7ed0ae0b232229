-- The outside of the engine: files that it reads, bytes that it takes, bytes that it puts.
-- What one of them holds may be told or not: `None` means that nothing is told.
use Rattle.std.specs.Prelude.{ℕ, List, ◌++◌, length, Option, Some, None, ◌≡◌, ◌<◌, ◌^◌, ◌-◌, ◌⊎◌}

-- The files of a shelf: the bytes at a folder and a file name, if there is such a file.
abbrev pub Files : Type 0
Files = List ℕ → List ℕ → Option (List ℕ)

-- The count rose, or stands at its last value.
abbrev pub Rose : ℕ → ℕ → Type 0
Rose before now = (before < now) ⊎ (now ≡ 2 ^ 64 - 1)

-- What is held after the piece was added behind it.
abbrev pub then_piece : Option (List ℕ) → List ℕ → Option (List ℕ)
then_piece None piece = None
then_piece (Some bytes) piece = Some (bytes ++ piece)

-- What was held before the piece was taken from its front.
abbrev pub piece_then : List ℕ → Option (List ℕ) → Option (List ℕ)
piece_then piece None = None
piece_then piece (Some rest) = Some (piece ++ rest)

-- A beginning of the bytes was added, be it none or all of them.
abbrev pub AddsPrefix : Option (List ℕ) → List ℕ → Option (List ℕ) → Type 0
AddsPrefix old bytes new = (front : List ℕ) × (back : List ℕ) × (bytes ≡ front ++ back) × (new ≡ then_piece old front)

-- Where the shelf is told, it has exactly this at the folder and file name.
abbrev pub HasThere : Option Files → List ℕ → List ℕ → Option (List ℕ) → Type 0
HasThere None folder file found = Unit {0}
HasThere (Some files) folder file found = files folder file ≡ found

-- There is a file, and it has more bytes than the limit.
abbrev pub IsOver : ℕ → Option (List ℕ) → Type 0
IsOver limit None = ⊥
IsOver limit (Some bytes) = limit < length bytes

-- Where the shelf is told, it has a file there with more bytes than the limit.
abbrev pub HasOver : Option Files → List ℕ → List ℕ → ℕ → Type 0
HasOver None folder file limit = Unit {0}
HasOver (Some files) folder file limit = IsOver limit (files folder file)
