-- What the lines of a journal do while it is opened.
use Rattle.std.specs.Prelude.{ℕ, ◌+◌, ◌<◌, ◌≤◌, List, [], ◌∷◌, Bool, true, false, IsTrue, Option, IfSome, Result, Ok, Err, ◌≡◌}
use Rattle.ld_admission.specs.Refusals.{Refusal}
use Rattle.ld_keep.specs.Kept.{lines_from}
use Rattle.ld_keep.specs.Opening.{OpeningState, IsAtGate}
use Rattle.ld_keeping.specs.InJournal.{Differing, after_journal}
use Rattle.ld_keeping.specs.Keeping.{IsDone}
use Rattle.ld_keeping.specs.declared.opening.OpenStop.{OpenStop}
use Rattle.ld_keeping.specs.declared.opening.OpenStop.TheVariants.{DiskFault, NoMemory, Differs}
use Rattle.ld_world.specs.Answers.{line_of}
use Rattle.ld_world.specs.World.{WorldState, world_step, reply_block}

-- A line was done, there is none any more, or the line of this number is refused; where the file is told, it is its next line.
abbrev pub AppliesNext : ℕ → Option (List ℕ) → OpeningState → WorldState → Result Bool OpenStop → List ℕ → OpeningState → WorldState → Type 0
AppliesNext number bytes old world (Ok true) text new after =
    (line : List ℕ) × IsDone world line text after × (old.place + 6 ≤ new.place) × (new.place < new.limit) × (new.limit ≡ old.limit)
    × IfSome bytes (λ file. (lines_from old.place file ≡ line ∷ lines_from new.place file) × IsAtGate new file)
AppliesNext number bytes old world (Ok false) text new after =
    (after ≡ world) × IsTrue new.ended × (new.place ≡ old.place) × IfSome bytes (λ file. (lines_from old.place file ≡ []) × IsAtGate new file)
AppliesNext number bytes old world (Err DiskFault) text new after = Unit {0}
AppliesNext number bytes old world (Err NoMemory) text new after = Unit {0}
AppliesNext number bytes old world (Err (Differs n)) text new after =
    (n ≡ number) × (line : List ℕ) × (refusal : Refusal) × (world_step world (line_of line) ≡ Err refusal) × (text ≡ reply_block (Err refusal))
    × IfSome bytes (λ file. (rest : List (List ℕ)) × (lines_from old.place file ≡ line ∷ rest))

-- Where a line of the journal is refused, it is the first one, and the text is its reply block.
abbrev pub DiffersAt : OpenStop → Option (List ℕ) → WorldState → List ℕ → Type 0
DiffersAt DiskFault bytes world text = Unit {0}
DiffersAt NoMemory bytes world text = Unit {0}
DiffersAt (Differs n) bytes world text =
    (differing : Differing) × (differing.number ≡ n) × (text ≡ reply_block (Err differing.refusal)) × IfSome bytes (λ file. after_journal world file ≡ Err differing)

-- The journal was not begun to be read: no line of it is refused.
abbrev pub IsBeforeLines : OpenStop → Type 0
IsBeforeLines DiskFault = Unit {0}
IsBeforeLines NoMemory = Unit {0}
IsBeforeLines (Differs n) = ⊥
