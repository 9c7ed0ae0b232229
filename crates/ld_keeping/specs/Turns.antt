-- One turn of answering and keeping: a line is asked for, answered, and kept where it is done.
use Rattle.std.specs.Prelude.{ℕ, ◌+◌, ◌<◌, List, [], ◌∷◌, length, Bool, true, false, Result, Ok, Err, ◌≡◌}
use Rattle.ld_keeping.specs.Keeping.{IsDone, IsNotDone, AnswersKeeping}
use Rattle.ld_keeping.specs.declared.answering.TurnStop.{TurnStop}
use Rattle.ld_keeping.specs.declared.answering.TurnStop.TheVariants.{ReadFault, InputTooLong, DiskFault, Full}
use Rattle.ld_lines.specs.Answer.{Answer, WholeLine, OverLine, NoLine, Fault, TooLong}
use Rattle.ld_world.specs.World.{WorldState}

-- A line that is done was kept, or the disk failed meanwhile, or its record of so many bytes, with the next gate, does not fit.
abbrev pub KeepsLine : (List (List ℕ) → Type 0) → (List ℕ → Type 0) → (ℕ → Type 0) → List ℕ → Result Bool TurnStop → Type 0
KeepsLine Kept But Over line (Ok true) = Kept (line ∷ [])
KeepsLine Kept But Over line (Ok false) = ⊥
KeepsLine Kept But Over line (Err ReadFault) = ⊥
KeepsLine Kept But Over line (Err InputTooLong) = ⊥
KeepsLine Kept But Over line (Err DiskFault) = But line
KeepsLine Kept But Over line (Err Full) = Over (6 + length line) × Kept []

-- A line was answered and, where it is done, kept; or it is done, and was not kept.
abbrev pub LineTurn : (List (List ℕ) → Type 0) → (List ℕ → Type 0) → (ℕ → Type 0) → WorldState → List ℕ → Result Bool TurnStop → List ℕ → List (List ℕ) → WorldState → Type 0
LineTurn Kept But Over old line (Ok true) text done new = AnswersKeeping old line text done new × Kept done
LineTurn Kept But Over old line (Ok false) text done new = ⊥
LineTurn Kept But Over old line (Err ReadFault) text done new = ⊥
LineTurn Kept But Over old line (Err InputTooLong) text done new = ⊥
LineTurn Kept But Over old line (Err DiskFault) text done new = IsDone old line text new × But line
LineTurn Kept But Over old line (Err Full) text done new = IsDone old line text new × Over (6 + length line) × Kept []

-- What came of the turn, by what was handed out. A line that is too long is refused, whatever it holds.
abbrev pub TakesTurn : (List (List ℕ) → Type 0) → (List ℕ → Type 0) → (ℕ → Type 0) → WorldState → Answer → Result Bool TurnStop → List ℕ → List (List ℕ) → WorldState → Type 0
TakesTurn Kept But Over old (WholeLine line) result text done new = LineTurn Kept But Over old line result text done new
TakesTurn Kept But Over old OverLine result text done new =
    (result ≡ Ok true) × (done ≡ []) × ((line : List ℕ) → 65536 < length line → IsNotDone old line text new) × Kept []
TakesTurn Kept But Over old NoLine result text done new = (result ≡ Ok false) × (done ≡ []) × (new ≡ old) × Kept []
TakesTurn Kept But Over old Fault result text done new = (result ≡ Err ReadFault) × (done ≡ []) × (new ≡ old) × Kept []
TakesTurn Kept But Over old TooLong result text done new = (result ≡ Err InputTooLong) × (done ≡ []) × (new ≡ old) × Kept []
