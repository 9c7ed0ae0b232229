-- How pieces are cut off, whatever bytes they hold.
use Rattle.std.specs.Prelude.{ℕ, List, [], ◌∷◌, ◌++◌, length, take, drop, true, false, Option, Result, Ok, Err, MatchOption, ◌≡◌, ◌⊎◌, ◌≤◌, ◌<◌, ◌+◌, ◌^◌}
use Rattle.ld_lines.specs.Lines.{HasNoFeed}
use Rattle.ld_lines.specs.Reading.{LinesRead, Takes}
use Rattle.ld_lines.specs.Answer.{Answer, WholeLine, OverLine, NoLine, Fault, TooLong}
use Rattle.ld_lines.specs.declared.cut.Cut.{Cut}
use Rattle.ld_lines.specs.declared.cut.Cut.TheVariants.{Whole, Over, End}
use Rattle.ld_lines.specs.declared.stop.LineStop.{LineStop}
use Rattle.ld_lines.specs.declared.stop.LineStop.TheVariants.{ReadFault, InputTooLong}

-- The line that was cut off last, and the reading.
pub record Cutting : Type 0 where
  pub line : List ℕ
  pub reading : LinesRead

-- The answer that a cut and the line in the buffer stand for.
abbrev pub answer_of_cut : List ℕ → Result Cut LineStop → Answer
answer_of_cut line (Ok Whole) = WholeLine line
answer_of_cut line (Ok Over) = OverLine
answer_of_cut line (Ok End) = NoLine
answer_of_cut line (Err ReadFault) = Fault
answer_of_cut line (Err InputTooLong) = TooLong

-- How many bytes were taken in all where reading stops.
abbrev pub StopsAt : LineStop → ℕ → Type 0
StopsAt ReadFault taken = taken < 2 ^ 40
StopsAt InputTooLong taken = taken ≡ 2 ^ 40

-- The first line feed is at this place, if there is one.
abbrev pub FeedAt : List ℕ → Option ℕ → Type 0
FeedAt held found =
    MatchOption found (HasNoFeed held) (λ at. (at < length held) × HasNoFeed (take at held) × (held ≡ take at held ++ 10 ∷ drop (at + 1) held))

-- The bytes begin with this piece, which its line feed ends, or the end of the source.
abbrev pub Ends : List ℕ → List ℕ → LinesRead → Type 0
Ends bytes piece r =
    HasNoFeed piece × (((bytes ≡ piece ++ 10 ∷ r.held) × (r.ended ≡ false)) ⊎ ((bytes ≡ piece) × (r.held ≡ []) × (r.ended ≡ true) × (0 < length piece)))

-- What was taken is held behind what was held, and the end was not told.
pub record Fetches (old : LinesRead) (before : Option (List ℕ)) (new : LinesRead) (now : Option (List ℕ)) : Type 0 where
  pub piece : List ℕ
  pub takes : Takes old before piece new now
  pub held : new.held ≡ old.held ++ piece
  pub ended : new.ended ≡ false

-- Nothing was asked of the source, and its end is not told.
abbrev pub AsksNothing : {S : Type 0} → LinesRead → S → LinesRead → S → Type 0
AsksNothing old before new now = (now ≡ before) × (new.taken ≡ old.taken) × (new.ended ≡ false)

-- What a cut says of the bytes that were held or taken.
abbrev pub CutsOf : List ℕ → Answer → LinesRead → Type 0
CutsOf bytes (WholeLine line) new = Ends bytes line new × (length line ≤ 65536)
CutsOf bytes OverLine new = (long : List ℕ) × Ends bytes long new × (65536 < length long)
CutsOf bytes NoLine new = (bytes ≡ []) × (new.held ≡ []) × (new.ended ≡ true) × (new.taken < 2 ^ 40)
CutsOf bytes Fault new = HasNoFeed bytes × (new.ended ≡ false)
CutsOf bytes TooLong new = HasNoFeed bytes × (new.ended ≡ false)

-- What the cut of one piece does. Behind an end that was told it answers nothing else.
pub record CutsOff (old : LinesRead) (before : Option (List ℕ)) (answer : Answer) (new : LinesRead) (now : Option (List ℕ)) : Type 0 where
  pub after_end : old.ended ≡ true → answer ≡ NoLine
  pub piece : List ℕ
  pub takes : Takes old before piece new now
  pub cuts_of : CutsOf (old.held ++ piece) answer new
