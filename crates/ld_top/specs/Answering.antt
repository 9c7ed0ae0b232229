-- What one turn of a replay does: a line is asked for, and is answered where there is one.
use Rattle.std.specs.Prelude.{ℕ, List, [], ◌∷◌, ◌++◌, ◌≡◌, ◌⊎◌, ◌<◌, ◌≤◌, ◌^◌, length, Bool, true, false, Option, Some, None, Result, Ok, Err}
use Rattle.ld_base.specs.Outside.{piece_then, then_piece, AddsPrefix}
use Rattle.ld_lines.specs.Lines.{lines_of, ended_lines_of}
use Rattle.ld_lines.specs.Answer.{Answer, WholeLine, OverLine, NoLine, Fault, TooLong}
use Rattle.ld_lines.specs.Reading.{IsEnd}
use Rattle.ld_lines.specs.declared.stop.LineStop.{LineStop}
use Rattle.ld_lines.specs.declared.stop.LineStop.TheVariants.{ReadFault, InputTooLong}
use Rattle.ld_world.specs.Answers.{AnswersLine, Leads, Answers, line_of}
use Rattle.ld_world.specs.World.{WorldState}
use Rattle.ld_top.specs.declared.ending.Ending.{Ending}
use Rattle.ld_top.specs.declared.ending.Ending.TheVariants.{Done, BadWords, ShelfFault, UnitRefused, ReadFault as Unread, WriteFault, NoMemory, InputTooLong as Endless, DiskFault, JournalDiffers, JournalFull}

-- What is told of the turn, and what is written, fit what came from the source. `true` says that a
-- line was answered, `false` that there is none any more.
abbrev pub AnswersWhat : WorldState → Answer → Result Bool LineStop → List ℕ → WorldState → Type 0
AnswersWhat old (WholeLine line) told text new = (told ≡ Ok true) × AnswersLine old (line_of line) text new
AnswersWhat old OverLine told text new = (told ≡ Ok true) × AnswersLine old None text new
AnswersWhat old NoLine told text new = (told ≡ Ok false) × (new ≡ old)
AnswersWhat old Fault told text new = (told ≡ Err ReadFault) × (new ≡ old)
AnswersWhat old TooLong told text new = (told ≡ Err InputTooLong) × (new ≡ old)

-- What was written grew by a text that answers these lines.
abbrev pub Answered : WorldState → List (List ℕ) → Option (List ℕ) → Option (List ℕ) → Type 0
Answered world lines old new = (text : List ℕ) × Answers world lines text × (new ≡ then_piece old text)

-- The source gave all of its bytes, of which there are fewer than 2^40, and told its end, and their
-- lines were answered.
abbrev pub AnsweredAll : WorldState → Option (List ℕ) → Option (List ℕ) → Option (List ℕ) → Option (List ℕ) → Type 0
AnsweredAll world None left old new = Unit {0}
AnsweredAll world (Some bytes) left old new = (left ≡ Some []) × (length bytes < 2 ^ 40) × Answered world (lines_of bytes) old new

-- So many bytes of the source were taken, and the lines that were ended in them were answered.
abbrev pub AnsweredTaken : (ℕ → Type 0) → WorldState → Option (List ℕ) → Option (List ℕ) → Option (List ℕ) → Option (List ℕ) → Type 0
AnsweredTaken Many world before left old new = (taken : List ℕ) × (before ≡ piece_then taken left) × Many (length taken) × Answered world (ended_lines_of taken) old new

-- The bytes begin with these lines: they are the first of those that a line feed ends, or, where nothing
-- is left, the first of all.
abbrev pub BeginsWithLines : List ℕ → Option (List ℕ) → List (List ℕ) → Type 0
BeginsWithLines bytes left lines = (rest : List (List ℕ)) × ((ended_lines_of bytes ≡ lines ++ rest) ⊎ (IsEnd left × (lines_of bytes ≡ lines ++ rest)))

-- What was written grew by a text that answers the lines, and by a beginning of one that answers the last
-- line after them.
abbrev pub AnsweredUpTo : WorldState → List (List ℕ) → List ℕ → Option (List ℕ) → Option (List ℕ) → Type 0
AnsweredUpTo world lines last old new =
    (text : List ℕ) × (mid : WorldState) × Leads world lines text mid × (block : List ℕ) × (next : WorldState) × AnswersLine mid (line_of last) block next × AddsPrefix (then_piece old text) block new

-- At most 2^40 bytes of the source were taken, and they begin with some lines and a last one: the lines were
-- answered, and of the answer to the last one a beginning was written.
abbrev pub AnsweredCut : WorldState → Option (List ℕ) → Option (List ℕ) → Option (List ℕ) → Option (List ℕ) → Type 0
AnsweredCut world before left old new =
    (taken : List ℕ) × (before ≡ piece_then taken left) × (length taken ≤ 2 ^ 40) × (lines : List (List ℕ)) × (last : List ℕ) × BeginsWithLines taken left (lines ++ last ∷ []) × AnsweredUpTo world lines last old new

-- How a call can end once lines are asked for.
abbrev pub IsEndOfLines : Ending → Type 0
IsEndOfLines Done = Unit {0}
IsEndOfLines BadWords = ⊥
IsEndOfLines ShelfFault = ⊥
IsEndOfLines UnitRefused = ⊥
IsEndOfLines Unread = Unit {0}
IsEndOfLines WriteFault = Unit {0}
IsEndOfLines NoMemory = ⊥
IsEndOfLines Endless = Unit {0}
IsEndOfLines DiskFault = ⊥
IsEndOfLines JournalDiffers = ⊥
IsEndOfLines JournalFull = ⊥
