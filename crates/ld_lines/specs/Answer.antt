-- What one call for the next line answers, and what that says of the bytes.
use Rattle.std.specs.Prelude.{ℕ, List, [], ◌∷◌, ◌++◌, length, true, false, Option, IfSome, ◌≡◌, ◌+◌, ◌<◌, ◌≤◌, ◌^◌}
use Rattle.ld_lines.specs.Lines.{lines_of, ended_lines_of, is_passed_over, lines_from, line_then}
use Rattle.ld_lines.specs.Reading.{LinesRead, IsEnd, KnowsEnd, Takes, Leaves}

-- The next line, that it has more than 65,536 bytes, that there is none, that the source failed, or
-- that the limit of 2^40 bytes was reached.
pub data Answer : Type 0 where
  WholeLine : (line : List ℕ) → Answer
  OverLine : Answer
  NoLine : Answer
  Fault : Answer
  TooLong : Answer

-- The line has at most 65,536 bytes, and one that is not blank.
abbrev pub IsWholeLine : List ℕ → Type 0
IsWholeLine line = (length line ≤ 65536) × (is_passed_over line ≡ false)

-- The answer fits the lines of what was held and what the source had left, where that is told.
abbrev pub FitsLines : LinesRead → Option (List ℕ) → Answer → LinesRead → Option (List ℕ) → Type 0
FitsLines old before (WholeLine line) new now = lines_from old.held before ≡ line_then line (lines_from new.held now)
FitsLines old before OverLine new now = (long : List ℕ) × (65536 < length long) × (lines_from old.held before ≡ line_then long (lines_from new.held now))
FitsLines old before NoLine new now = KnowsEnd old before → IsEnd now × IfSome (lines_from old.held before) (λ lines. lines ≡ [])
FitsLines old before Fault new now = Unit {0}
FitsLines old before TooLong new now = Unit {0}

-- The answer fits the bytes that were held or taken, whatever comes behind them. The end is told below
-- the limit alone. At a stop no line among them is ended, and the end was not told.
abbrev pub FitsBytes : List ℕ → Answer → LinesRead → Type 0
FitsBytes bytes (WholeLine line) new = IsWholeLine line × Leaves bytes (line ∷ []) new
FitsBytes bytes OverLine new = (long : List ℕ) × (65536 < length long) × Leaves bytes (long ∷ []) new
FitsBytes bytes NoLine new = (lines_of bytes ≡ []) × (new.held ≡ []) × (new.ended ≡ true) × (new.taken < 2 ^ 40)
FitsBytes bytes Fault new = (ended_lines_of bytes ≡ []) × (new.ended ≡ false) × (new.taken < 2 ^ 40)
FitsBytes bytes TooLong new = (ended_lines_of bytes ≡ []) × (new.ended ≡ false) × (new.taken ≡ 2 ^ 40)

-- Where a line was handed out, fewer bytes are to come: those that are held, and those that may
-- still be taken.
abbrev pub Progresses : LinesRead → Answer → LinesRead → Type 0
Progresses old (WholeLine line) new = length new.held + old.taken < length old.held + new.taken
Progresses old OverLine new = length new.held + old.taken < length old.held + new.taken
Progresses old NoLine new = Unit {0}
Progresses old Fault new = Unit {0}
Progresses old TooLong new = Unit {0}

-- What one call does: `before` and `now` are what the source had left before it and has left after it.
pub record HandsOut (old : LinesRead) (before : Option (List ℕ)) (answer : Answer) (new : LinesRead) (now : Option (List ℕ)) : Type 0 where
  pub lines : FitsLines old before answer new now
  pub after_end : old.ended ≡ true → answer ≡ NoLine
  pub piece : List ℕ
  pub takes : Takes old before piece new now
  pub bytes : FitsBytes (old.held ++ piece) answer new
  pub progress : Progresses old answer new
  pub limit : new.taken ≤ 2 ^ 40
