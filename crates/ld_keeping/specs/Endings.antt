-- What stands when the answering of lines over a journal ends.
use Rattle.std.specs.Prelude.{ℕ, List, [], ◌∷◌, ◌++◌, ◌+◌, ◌≤◌, ◌^◌, Option, Some, ◌≡◌, ◌⊎◌}
use Rattle.ld_base.specs.Outside.{then_piece, AddsPrefix}
use Rattle.ld_world.specs.World.{WorldState}
use Rattle.ld_keep.specs.Kept.{last_gate}
use Rattle.ld_keeping.specs.InputLines.{AreAllLines, AreEndedLines, AreFirstLines, BeginsWithLines}
use Rattle.ld_keeping.specs.Journaling.{size_of_records}
use Rattle.ld_keeping.specs.Keeping.{IsDone, AnswersKeeping, Keeps}
use Rattle.ld_keeping.specs.declared.ending.KeepEnding.{KeepEnding}
use Rattle.ld_keeping.specs.declared.ending.KeepEnding.TheVariants.{Done, ReadFault, WriteFault, NoMemory, InputTooLong, DiskFault, JournalDiffers, JournalFull}

-- The lines were answered, and what was done was kept.
pub record AnswersLines (Kept : List (List ℕ) → Type 0) (old : WorldState) (before written : Option (List ℕ)) (lines : List (List ℕ)) : Type 0 where
  pub text : List ℕ
  pub done : List (List ℕ)
  pub new : WorldState
  pub keeps : Keeps old lines text done new
  pub wrote : written ≡ then_piece before text
  pub kept : Kept done

-- The lines were answered, and of the answer to the last one after them a beginning was written. What was done was
-- kept, the last line too.
pub record AnswersUpTo (Kept : List (List ℕ) → Type 0) (old : WorldState) (before written : Option (List ℕ)) (lines : List (List ℕ)) (last : List ℕ) : Type 0 where
  pub text : List ℕ
  pub done : List (List ℕ)
  pub mid : WorldState
  pub keeps : Keeps old lines text done mid
  pub block : List ℕ
  pub one : List (List ℕ)
  pub new : WorldState
  pub answers : AnswersKeeping mid last block one new
  pub wrote : AddsPrefix (then_piece before text) block written
  pub kept : Kept (done ++ one)

-- The lines were answered, and what was done was kept; the last line after them is done, too, but it was not kept, and
-- nothing was written for it.
pub record AnswersBefore (Kept : List (List ℕ) → Type 0) (old : WorldState) (before written : Option (List ℕ)) (lines : List (List ℕ)) (last : List ℕ) : Type 0 where
  pub text : List ℕ
  pub done : List (List ℕ)
  pub mid : WorldState
  pub keeps : Keeps old lines text done mid
  pub block : List ℕ
  pub new : WorldState
  pub is_done : IsDone mid last block new
  pub wrote : written ≡ then_piece before text
  pub kept : Kept done

-- All lines of the source were answered.
abbrev pub KeepsAll : (List (List ℕ) → Type 0) → WorldState → (source sink_before left written : Option (List ℕ)) → Type 0
KeepsAll Kept old source before left written =
    (lines : List (List ℕ)) × AreAllLines source left lines × AnswersLines Kept old before written lines

-- The lines that were ended in this many bytes were answered.
abbrev pub KeepsTaken : (ℕ → Type 0) → (List (List ℕ) → Type 0) → WorldState → (source sink_before left written : Option (List ℕ)) → Type 0
KeepsTaken Many Kept old source before left written =
    (lines : List (List ℕ)) × AreEndedLines Many source left lines × AnswersLines Kept old before written lines

-- The answering ended within the reply to a line.
abbrev pub KeepsCut : (List (List ℕ) → Type 0) → WorldState → (source sink_before left written : Option (List ℕ)) → Type 0
KeepsCut Kept old source before left written =
    (lines : List (List ℕ)) × (last : List ℕ) × AreFirstLines source left (lines ++ last ∷ []) × AnswersUpTo Kept old before written lines last

-- The answering ended at a line that is done, but was not kept.
abbrev pub KeepsBefore : (List (List ℕ) → List ℕ → Type 0) → WorldState → (source sink_before left written : Option (List ℕ)) → Type 0
KeepsBefore Kept old source before left written =
    (lines : List (List ℕ)) × (last : List ℕ) × AreFirstLines source left (lines ++ last ∷ [])
    × AnswersBefore (λ done. Kept done last) old before written lines last

-- How the answering can end once lines are asked for.
abbrev pub IsEndOfLines : KeepEnding → Type 0
IsEndOfLines Done = Unit {0}
IsEndOfLines ReadFault = Unit {0}
IsEndOfLines WriteFault = Unit {0}
IsEndOfLines NoMemory = ⊥
IsEndOfLines InputTooLong = Unit {0}
IsEndOfLines DiskFault = Unit {0}
IsEndOfLines JournalDiffers = ⊥
IsEndOfLines JournalFull = Unit {0}

-- How it can end where a line of the journal is refused.
abbrev pub IsEndOfJournal : KeepEnding → Type 0
IsEndOfJournal Done = ⊥
IsEndOfJournal ReadFault = ⊥
IsEndOfJournal WriteFault = Unit {0}
IsEndOfJournal NoMemory = Unit {0}
IsEndOfJournal InputTooLong = ⊥
IsEndOfJournal DiskFault = ⊥
IsEndOfJournal JournalDiffers = Unit {0}
IsEndOfJournal JournalFull = ⊥

-- Whichever lines the bytes begin with, and whichever of them are done from this world on: their records fit after
-- those of the file, with a gate after them.
abbrev pub HasRoomFor : WorldState → List ℕ → List ℕ → Type 0
HasRoomFor world bytes file =
    (taken left : List ℕ) (lines : List (List ℕ)) (text : List ℕ) (done : List (List ℕ)) (new : WorldState)
    → bytes ≡ taken ++ left → BeginsWithLines taken (Some left) lines → Keeps world lines text done new
    → last_gate file + size_of_records done + 1 ≤ 2 ^ 40

-- Every line is answered, or memory ran out before the first one.
abbrev pub IsComplete : KeepEnding → Type 0
IsComplete ending = (ending ≡ Done) ⊎ (ending ≡ NoMemory)
