-- What has come of a source since its lines began to be handed out.
use Rattle.std.specs.Prelude.{ℕ, List, [], ◌∷◌, ◌++◌, length, Option, IfSome, ◌≡◌, ◌<◌, ◌^◌}
use Rattle.ld_base.specs.Outside.{piece_then}
use Rattle.ld_lines.specs.Lines.{lines_of, ended_lines_of}
use Rattle.ld_lines.specs.Reading.{LinesRead, KnowsEnd, Leaves}
use Rattle.ld_lines.specs.Answer.{Answer, WholeLine, OverLine, NoLine, Fault, TooLong}

-- These bytes were taken since the source had `first` left, and these lines were handed out of them.
pub record Handed (first : Option (List ℕ)) (bytes : List ℕ) (lines : List (List ℕ)) (r : LinesRead) (now : Option (List ℕ)) : Type 0 where
  pub left : first ≡ piece_then bytes now
  pub counted : r.taken ≡ length bytes
  pub knows_end : KnowsEnd r now
  pub leaves : Leaves bytes lines r

-- These bytes were taken in all, and the lines that a line feed ends in them are these.
pub record Stopped (first : Option (List ℕ)) (bytes : List ℕ) (lines : List (List ℕ)) (r : LinesRead) (now : Option (List ℕ)) : Type 0 where
  pub left : first ≡ piece_then bytes now
  pub counted : r.taken ≡ length bytes
  pub by_feed : ended_lines_of bytes ≡ lines

-- What has come of the source after one more answer. At the end the lines are those of all its bytes,
-- of which there are fewer than 2^40.
abbrev pub HandedOn : Option (List ℕ) → List (List ℕ) → Answer → LinesRead → Option (List ℕ) → Type 0
HandedOn first lines (WholeLine line) new now = (bytes : List ℕ) × Handed first bytes (lines ++ line ∷ []) new now
HandedOn first lines OverLine new now =
    (bytes : List ℕ) × (long : List ℕ) × (65536 < length long) × Handed first bytes (lines ++ long ∷ []) new now
HandedOn first lines NoLine new now =
    (bytes : List ℕ) × Handed first bytes lines new now × (lines_of bytes ≡ lines) × (length bytes < 2 ^ 40) × IfSome first (λ all. bytes ≡ all)
HandedOn first lines Fault new now = (bytes : List ℕ) × Stopped first bytes lines new now
HandedOn first lines TooLong new now = (bytes : List ℕ) × Stopped first bytes lines new now
