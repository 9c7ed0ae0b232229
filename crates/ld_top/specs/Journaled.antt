-- What a call of `keep FOLDER..` is to have done when it ends. (docs/JOURNAL.md)
use Rattle.std.specs.Prelude.{ℕ, List, [], ◌∷◌, ◌++◌, ◌+◌, ◌≡◌, ◌⊎◌, ◌<◌, ◌^◌, length, Option, Some, IfSome, Ok}
use Rattle.ld_base.specs.Outside.{Files, then_piece, AddsPrefix}
use Rattle.ld_keep.specs.Disk.{DiskModel, IsSettled}
use Rattle.ld_keep.specs.Kept.{last_gate}
use Rattle.ld_keeping.specs.Endings.{HasRoomFor, KeepsAll, KeepsBefore, KeepsCut, KeepsTaken}
use Rattle.ld_keeping.specs.InJournal.{FromDiffering, FromJournal, after_journal, differing_text}
use Rattle.ld_keeping.specs.Journaling.{HasKept, HasKeptBut, LosesNone, size_of_records}
use Rattle.ld_model.specs.declared.unit.Unit.{Unit}
use Rattle.ld_world.specs.World.{WorldState, first_world}
use Rattle.ld_top.specs.Replay.{FromUnits, Publishes, RefusedCut}

-- ---- the journal

-- What may be said of a journal from one moment of its disk to another: these lines were kept; or these, and perhaps one
-- more; or none was, and none is lost.
pub record Journaled : Type 1 where
  pub Kept : List (List ℕ) → Type 0
  pub KeptBut : List (List ℕ) → List ℕ → Type 0
  pub KeptNone : Type 0

-- The same of a disk, where nothing was pending on it at first.
abbrev pub journaled : {D : Type 0} → DiskModel D → D → D → Journaled
journaled disk old new = record {
  Kept = λ done. IsSettled disk old → HasKept disk old new done;
  KeptBut = λ done last. IsSettled disk old → HasKeptBut disk old new done last;
  KeptNone = IsSettled disk old → LosesNone disk old new;
}

-- ---- from a world on: `file` is what the journal held, where it is told; of the source it is told what it had before
-- and has left, and of the sink what it had before and has now

-- All lines of the source were answered, from the world of the journal on.
abbrev pub JournaledAll : Journaled → Option (List ℕ) → WorldState → (before left old new : Option (List ℕ)) → Type 0
JournaledAll j file w before left old new = FromJournal file w (λ after. KeepsAll j.Kept after before old left new)

-- It stopped after this many bytes of the source, and the lines that were ended in them were answered.
abbrev pub JournaledTaken : (ℕ → Type 0) → Journaled → Option (List ℕ) → WorldState → (before left old new : Option (List ℕ)) → Type 0
JournaledTaken Many j file w before left old new = FromJournal file w (λ after. KeepsTaken Many j.Kept after before old left new)

-- A line of the journal is refused, a beginning of the text that tells it was written, and nothing was taken.
abbrev pub DifferingCut : Journaled → Option (List ℕ) → WorldState → (before left old new : Option (List ℕ)) → Type 0
DifferingCut j file w before left old new =
    FromDiffering file w (λ differing. AddsPrefix old (differing_text differing) new × (left ≡ before) × j.KeptNone)

-- It stopped in the reply to a line, or in the text that tells the refused line of the journal.
abbrev pub JournaledCut : Journaled → Option (List ℕ) → WorldState → (before left old new : Option (List ℕ)) → Type 0
JournaledCut j file w before left old new =
    FromJournal file w (λ after. KeepsCut j.Kept after before old left new) ⊎ DifferingCut j file w before left old new

-- The disk failed while a line that is done was kept: those before it were answered. Or it failed before the first line
-- was asked for, and nothing was taken and nothing written.
abbrev pub JournaledLost : Journaled → Option (List ℕ) → WorldState → (before left old new : Option (List ℕ)) → Type 0
JournaledLost j file w before left old new =
    FromJournal file w (λ after. KeepsBefore j.KeptBut after before old left new) ⊎ ((left ≡ before) × (new ≡ old) × j.KeptNone)

-- The record of a line that is done would end past byte 2^40 with the gate after it: those before it were answered.
abbrev pub JournaledFull : Journaled → Option (List ℕ) → WorldState → (before left old new : Option (List ℕ)) → Type 0
JournaledFull j file w before left old new = FromJournal file w (λ after. KeepsBefore (λ done last.
    j.Kept done × IfSome file (λ bytes. 2 ^ 40 < last_gate bytes + size_of_records (done ++ last ∷ []) + 1)) after before old left new)

-- A line of the journal is refused; the text that tells the first such line was written, and nothing was taken.
abbrev pub JournaledDiffers : Journaled → Option (List ℕ) → WorldState → (before left old new : Option (List ℕ)) → Type 0
JournaledDiffers j file w before left old new =
    FromDiffering file w (λ differing. (new ≡ then_piece old (differing_text differing)) × (left ≡ before) × j.KeptNone)

-- ---- the ends of the call

-- The folders' units are published, and from their world on this was done.
abbrev pub FromFirst : Option Files → List (List ℕ) → (WorldState → Type 0) → Type 0
FromFirst files folders Done = FromUnits files folders (λ units. Done (first_world units))

-- It was done: all lines of the source were answered.
abbrev pub KeptAll : Journaled → Option Files → (file before left old new : Option (List ℕ)) → List (List ℕ) → Type 0
KeptAll j files file before left old new folders = FromFirst files folders (λ w. JournaledAll j file w before left old new)

-- It stopped after this many bytes of the source.
abbrev pub KeptTaken : (ℕ → Type 0) → Journaled → Option Files → (file before left old new : Option (List ℕ)) → List (List ℕ) → Type 0
KeptTaken Many j files file before left old new folders = FromFirst files folders (λ w. JournaledTaken Many j file w before left old new)

-- A folder is refused, and a beginning of the line that tells it was written; or it stopped as above.
abbrev pub KeptCut : Journaled → Option Files → (file before left old new : Option (List ℕ)) → List (List ℕ) → Type 0
KeptCut j files file before left old new folders =
    (RefusedCut folders files before left old new × j.KeptNone) ⊎ FromFirst files folders (λ w. JournaledCut j file w before left old new)

-- The disk failed.
abbrev pub KeptLost : Journaled → Option Files → (file before left old new : Option (List ℕ)) → List (List ℕ) → Type 0
KeptLost j files file before left old new folders = FromFirst files folders (λ w. JournaledLost j file w before left old new)

-- A line that is done does not fit into the journal.
abbrev pub KeptFull : Journaled → Option Files → (file before left old new : Option (List ℕ)) → List (List ℕ) → Type 0
KeptFull j files file before left old new folders = FromFirst files folders (λ w. JournaledFull j file w before left old new)

-- A line of the journal is refused.
abbrev pub KeptDiffers : Journaled → Option Files → (file before left old new : Option (List ℕ)) → List (List ℕ) → Type 0
KeptDiffers j files file before left old new folders = FromFirst files folders (λ w. JournaledDiffers j file w before left old new)

-- ---- where nothing fails

-- The input has these bytes, fewer than 2^40 of them; the journal tells its bytes, each line that they keep is done from
-- this world on, and there is room for what is done of the input.
pub record HasGoodJournal (w : WorldState) (left journal : Option (List ℕ)) : Type 0 where
  pub bytes : List ℕ
  pub held : List ℕ
  pub after : WorldState
  pub input : left ≡ Some bytes
  pub few : length bytes < 2 ^ 40
  pub file : journal ≡ Some held
  pub done : after_journal w held ≡ Ok after
  pub room : HasRoomFor after bytes held

-- The units of these folders are published, and the journal is good from their world on.
pub record IsGivenToKeep (folders : List (List ℕ)) (files : Option Files) (left file : Option (List ℕ)) : Type 0 where
  pub told : Files
  pub units : List Unit
  pub are_told : files ≡ Some told
  pub published : Publishes told folders (Ok units)
  pub journal : HasGoodJournal (first_world units) left file
