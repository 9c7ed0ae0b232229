-- What contracts see of the reading of lines, and how bytes are taken and passed on in it.
use Rattle.std.specs.Prelude.{ℕ, List, [], ◌++◌, length, Bool, true, false, Option, IfSome, ◌≡◌, ◌+◌}
use Rattle.ld_base.specs.Outside.{piece_then}
use Rattle.ld_lines.specs.Lines.{lines_of, ended_lines_of}

-- The bytes that were taken and neither handed out nor passed over, how many were taken in all, and
-- whether the source told its end.
pub record LinesRead : Type 0 where
  pub held : List ℕ
  pub taken : ℕ
  pub ended : Bool

-- Nothing is left, where that is told.
abbrev pub IsEnd : Option (List ℕ) → Type 0
IsEnd left = IfSome left (λ rest. rest ≡ [])

-- An end that was told is the end of this source.
abbrev pub KnowsEnd : LinesRead → Option (List ℕ) → Type 0
KnowsEnd r left = r.ended ≡ true → IsEnd left

-- Exactly this piece was taken from the front of what the source had left, and nothing once its end
-- was told.
pub record Takes (old : LinesRead) (before : Option (List ℕ)) (piece : List ℕ) (new : LinesRead) (now : Option (List ℕ)) : Type 0 where
  pub left : before ≡ piece_then piece now
  pub counted : new.taken ≡ old.taken + length piece
  pub none_after_end : old.ended ≡ true → piece ≡ []
  pub stays_ended : old.ended ≡ true → new.ended ≡ true
  pub knows_end : KnowsEnd old before → KnowsEnd new now

-- Whatever comes behind them, the lines of the bytes are these lines and then those of what is held.
-- Behind an end that was told nothing comes.
pub record Leaves (bytes : List ℕ) (lines : List (List ℕ)) (r : LinesRead) : Type 0 where
  pub every : (more : List ℕ) → (r.ended ≡ true → more ≡ []) → lines_of (bytes ++ more) ≡ lines ++ lines_of (r.held ++ more)
  pub by_feed : (more : List ℕ) → r.ended ≡ false → ended_lines_of (bytes ++ more) ≡ lines ++ ended_lines_of (r.held ++ more)
