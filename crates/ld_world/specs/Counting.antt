-- How many steps the lines of a source may take.
use Rattle.std.specs.Prelude.{◌≡◌, ◌≤◌, ℕ, ◌+◌, List, Bool, true, false, Option, Some, None}
use Rattle.ld_base.specs.Outside.{then_piece}
use Rattle.ld_lines.specs.Answer.{Answer, WholeLine, OverLine, NoLine, Fault, TooLong, HandsOut}
use Rattle.ld_lines.specs.Lines.{lines_of}
use Rattle.ld_lines.specs.Reading.{LinesRead}
use Rattle.ld_world.specs.Answers.{line_of}
use Rattle.ld_world.specs.LineWork.{TakesLine, TakesLines, line_steps}
use Rattle.ld_world.specs.WorldView.{WorldView}

-- ---- one turn: a line is asked for, and answered where there is one

-- A line was handed out, whole or too long.
abbrev pub is_line : Answer → Bool
is_line (WholeLine line) = true
is_line OverLine = true
is_line NoLine = false
is_line Fault = false
is_line TooLong = false

-- What came of the world by what was handed out: a line was answered by the text, and else the world stayed.
abbrev pub TakesAnswer : WorldView → Answer → List ℕ → WorldView → Type 0
TakesAnswer old (WholeLine line) text new = TakesLine old (line_of line) text new
TakesAnswer old OverLine text new = TakesLine old None text new
TakesAnswer old NoLine text new = new ≡ old
TakesAnswer old Fault text new = new ≡ old
TakesAnswer old TooLong text new = new ≡ old

-- How many steps that may take.
abbrev pub answer_steps : WorldView → Answer → ℕ
answer_steps world (WholeLine line) = line_steps world (line_of line)
answer_steps world OverLine = 0
answer_steps world NoLine = 0
answer_steps world Fault = 0
answer_steps world TooLong = 0

-- The turn took no more steps. `Goes` says that a line was answered, and `Ends` that there is none any more.
pub record CountsTurn (old : LinesRead) (before : Option (List ℕ)) (world : WorldView) (begun : ℕ) (text : List ℕ) (new : LinesRead) (left : Option (List ℕ)) (next : WorldView) (ended : ℕ) (Goes Ends : Type 0) : Type 0 where
  pub answer : Answer
  pub out : HandsOut old before answer new left
  pub takes : TakesAnswer world answer text next
  pub counted : ended ≤ begun + answer_steps world answer
  pub goes : Goes → is_line answer ≡ true
  pub ends : Ends → answer ≡ NoLine

-- ---- all lines

-- Where the source told its bytes: what was written answers all its lines, from the world on, and no more steps were
-- taken than these may take, each in the world in which it was answered.
abbrev pub WorkedAll : WorldView → (source before written : Option (List ℕ)) → (begun ended : ℕ) → Type 0
WorkedAll world None before written begun ended = Unit {0}
WorkedAll world (Some bytes) before written begun ended =
    (text : List ℕ) × (most : ℕ) × (last : WorldView) × TakesLines world (lines_of bytes) text most last
    × (written ≡ then_piece before text) × (ended ≤ begun + most)
