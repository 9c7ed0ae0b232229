-- What contracts see of a journal that is being opened.
use Rattle.std.specs.Prelude.{ℕ, ◌+◌, ◌≤◌, ◌<◌, List, [], ◌∷◌, length, drop, Bool, true, false, IsTrue, Option, Some, None, IfSome, slice_get, ◌==◌, nat_le, if◌then◌else◌, ◌≡◌}
use Rattle.ld_keep.specs.Disk.{overwritten}
use Rattle.ld_keep.specs.Kept.{reach, length_field, is_record, gate_past, last_gate, lines_from}
use Rattle.ld_keep.specs.Window.{WindowState, IsOfFile}

-- The place of the gate that is looked at next, how many bytes of the file may hold records, whether the last line was
-- handed out, and the bytes that are held.
pub record OpeningState : Type 0 where
  pub place : ℕ
  pub limit : ℕ
  pub ended : Bool
  pub window : WindowState

-- The opening is at a gate of the file, and holds bytes of it.
pub record IsAtGate (o : OpeningState) (file : List ℕ) : Type 0 where
  pub limit : o.limit ≡ length (reach file)
  pub gate : last_gate file ≡ o.place + gate_past 0 (drop o.place (reach file))
  pub ended : IsTrue o.ended → lines_from o.place file ≡ []
  pub window : IsOfFile o.window file

-- The gate that is looked at next stands after the record of this line, within the limit.
pub record AdvancesBy (line : List ℕ) (old new : OpeningState) : Type 0 where
  pub some : 1 ≤ length line
  pub most : length line ≤ 65536
  pub place : new.place ≡ old.place + 5 + length line
  pub limit : new.limit ≡ old.limit
  pub within : new.place < new.limit

-- What a call for the next line answers: a line, that there is none, or that the disk failed.
pub data Answer : Type 0 where
  Line : (line : List ℕ) → Answer
  NoLine : Answer
  Failed : Answer

-- What the call says of the lines, where the bytes of the file are told, and what it leaves of the opening. Whatever it
-- answers, other bytes may be held then.
abbrev pub HandsOut : OpeningState → Option (List ℕ) → Answer → OpeningState → Type 0
HandsOut old bytes (Line line) new = AdvancesBy line old new × IfSome bytes (λ file. (lines_from old.place file ≡ line ∷ lines_from new.place file) × IsAtGate new file)
HandsOut old bytes NoLine new = (new ≡ record old { ended = true; window = new.window }) × IfSome bytes (λ file. (lines_from old.place file ≡ []) × IsAtGate new file)
HandsOut old bytes Failed new = (new ≡ record old { window = new.window }) × IfSome bytes (IsAtGate new)

-- The place is that of the last gate, which is this one.
pub record HasLastGate (place gate : ℕ) (file : List ℕ) : Type 0 where
  pub at : last_gate file ≡ place
  pub byte : slice_get file place ≡ Some gate

-- The place is that of the last gate, and no gate that is put there opens a record.
pub record IsHarmless (place : ℕ) (file : List ℕ) : Type 0 where
  pub gate : last_gate file ≡ place
  pub shut : (gate : ℕ) → is_record gate (length_field (drop (place + 1) (reach file))) (length (drop (place + 1) (reach file))) ≡ false

-- The file with the four bytes after the gate at the place cleared, where they lie within the bytes that may hold records.
unfoldable pub with_cleared_length : ℕ → List ℕ → List ℕ
with_cleared_length place file =
    if nat_le (place + 5) (length (reach file)) then overwritten (place + 1) (0 ∷ 0 ∷ 0 ∷ 0 ∷ []) file else file

-- The file with a closed gate at the place, of which the gate there is told. A length after a gate that is neither open
-- nor closed is cleared, too. A file that has no gate is empty.
unfoldable pub with_closed : ℕ → Option ℕ → List ℕ → List ℕ
with_closed place None file = overwritten place (0 ∷ []) file
with_closed place (Some gate) file =
    if gate == 0 then file else overwritten place (0 ∷ []) (if gate == 1 then file else with_cleared_length place file)

-- The file that is left once its opening is finished: its last gate is closed.
unfoldable pub with_closed_gate : List ℕ → List ℕ
with_closed_gate file = with_closed (last_gate file) (slice_get file (last_gate file)) file
