-- What contracts see of an open journal: the place of its last gate.
use Rattle.std.specs.Prelude.{ℕ, List, ◌∷◌, ◌++◌, [], Option, Some, None, option_map, slice_get, ◌≡◌}
use Rattle.ld_keep.specs.Disk.{overwritten}
use Rattle.ld_keep.specs.Kept.{kept_lines, last_gate, entry_of}

-- The last gate of the file stands at this place, and is closed.
pub record IsAtRest (place : ℕ) (file : List ℕ) : Type 0 where
  pub gate : last_gate file ≡ place
  pub closed : slice_get file place ≡ Some 0

-- The lines that a disk keeps, where its bytes are told.
abbrev pub kept_on : Option (List ℕ) → Option (List (List ℕ))
kept_on bytes = option_map kept_lines bytes

-- One more line after them.
abbrev pub then_line : Option (List (List ℕ)) → List ℕ → Option (List (List ℕ))
then_line None line = None
then_line (Some lines) line = Some (lines ++ (line ∷ []))

-- The file with the record of the line at the place, and a closed gate after it.
abbrev pub with_line : ℕ → List ℕ → List ℕ → List ℕ
with_line place line file = overwritten place (1 ∷ entry_of line) file
