-- What a file keeps, told from its records.
use Rattle.std.specs.Prelude.{ℕ, ◌≤◌, ◌<◌, ◌^◌, List, ◌∷◌, ◌++◌, length, flat_map, ◌≡◌}
use Rattle.std.specs.Int.{w32, to_be_bytes}
use Rattle.std.specs.List.{AllByRecursion}
use Rattle.ld_keep.specs.Kept.{kept_lines}

-- A line that has a record.
abbrev pub IsKeepable : List ℕ → Type 0
IsKeepable line = (1 ≤ length line) × (length line ≤ 65536)

-- Its record: an open gate, its length and the line.
abbrev pub record_of : List ℕ → List ℕ
record_of line = 1 ∷ (to_be_bytes w32 (length line) ++ line)

-- Records that stand one after the other, and a closed gate after them, keep their lines, whatever follows.
abbrev pub RecordsAreKept : Type 0
RecordsAreKept =
    (lines : List (List ℕ)) (more : List ℕ) → AllByRecursion IsKeepable lines → length (flat_map record_of lines) < 2 ^ 40
    → kept_lines (flat_map record_of lines ++ (0 ∷ more)) ≡ lines
