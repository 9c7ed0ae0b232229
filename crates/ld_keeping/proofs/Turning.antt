-- Answering and keeping under way: what was taken, which lines were handed out, what was written for them, and what was kept.
use Rattle.std.proofs.Common.{ℕ, Bool, List, [], ◌∷◌, ◌++◌, ◌≡◌, ◌<◌, ◌≤◌, ◌^◌, length, Option, Some, None, true, false, refl, sym, ◌∙◌, ap, append_assoc, append-nil, ◌⊎◌, ◌+◌, arith, inl, inr, Ok, Err, subst}
use Rattle.std.proofs.lemmas.Grind.{common_steps}
use Rattle.ld_base.specs.Outside.{piece_then, then_piece, AddsPrefix}
use Rattle.ld_base.proofs.Pieces.{then_piece-nil, then_piece-append}
use Rattle.ld_lines.specs.Answer.{Answer, WholeLine, OverLine, NoLine, Fault, TooLong, HandsOut}
use Rattle.ld_lines.specs.Handed.{Handed, HandedOn}
use Rattle.ld_lines.specs.Lines.{lines_of, ended_lines_of}
use Rattle.ld_lines.specs.Reading.{LinesRead, IsEnd}
use Rattle.ld_lines.proofs.Handed.{Handed-first, Handed-next}
use Rattle.ld_world.specs.World.{WorldState}
use Rattle.ld_keeping.specs.Endings.{AnswersLines, AnswersUpTo, AnswersBefore, KeepsAll, KeepsTaken, KeepsCut, KeepsBefore}
use Rattle.ld_keeping.specs.InputLines.{AreAllLines, AreEndedLines, AreFirstLines, BeginsWithLines}
use Rattle.ld_keeping.specs.Keeping.{IsDone, IsNotDone, AnswersKeeping, Keeps}
use Rattle.ld_keeping.specs.Turns.{LineTurn, TakesTurn}
use Rattle.ld_keeping.specs.declared.answering.TurnStop.TheVariants.{ReadFault, InputTooLong, DiskFault, Full}

pub record IsUnderWay (Kept : List (List ℕ) → Type 0) (at_first : WorldState) (first before : Option (List ℕ)) (r : LinesRead) (left : Option (List ℕ)) (world : WorldState) (written : Option (List ℕ)) : Type 0 where
  pub bytes : List ℕ
  pub lines : List (List ℕ)
  pub text : List ℕ
  pub done : List (List ℕ)
  pub handed : Handed first bytes lines r left
  pub keeps : Keeps at_first lines text done world
  pub wrote : written ≡ then_piece before text
  pub kept : Kept done

pub IsUnderWay-first : (Kept : List (List ℕ) → Type 0) (world : WorldState) (first before : Option (List ℕ)) (r : LinesRead) → r.held ≡ [] → r.taken ≡ 0 → r.ended ≡ false → Kept [] → IsUnderWay Kept world first before r first world before
IsUnderWay-first Kept world first before r nothing zero going kept = record {
  bytes = [];
  lines = [];
  text = [];
  done = [];
  handed = Handed-first first r nothing zero going;
  keeps = (refl, refl, refl);
  wrote = sym (then_piece-nil before);
  kept = kept;
}

-- one more line at the end
pub Keeps-more : (old : WorldState) (lines : List (List ℕ)) (text : List ℕ) (done : List (List ℕ)) (mid : WorldState) (line block : List ℕ) (one : List (List ℕ)) (new : WorldState) → Keeps old lines text done mid → AnswersKeeping mid line block one new → Keeps old (lines ++ line ∷ []) (text ++ block) (done ++ one) new
Keeps-more old [] text done mid line block one new (no_text, none, same) answers = (
  block,
  [],
  one,
  [],
  new,
  ap (λ (t : List ℕ). t ++ block) no_text ∙ sym (append-nil block),
  ap (λ (ls : List (List ℕ)). ls ++ one) none ∙ sym (append-nil one),
  subst (λ (w : WorldState). AnswersKeeping w line block one new) same answers,
  (refl, refl, refl),
)
Keeps-more old (l ∷ lines) text done mid line block one new (first, rest, kept, more, between, parts, kept_parts, first_answers, keeps) answers = (
  first,
  rest ++ block,
  kept,
  more ++ one,
  between,
  ap (λ (t : List ℕ). t ++ block) parts ∙ append_assoc first rest block,
  ap (λ (ls : List (List ℕ)). ls ++ one) kept_parts ∙ append_assoc kept more one,
  first_answers,
  Keeps-more between lines rest more mid line block one new keeps answers,
)

-- The bytes that were taken begin with the lines that were handed out.
first_lines : {first : Option (List ℕ)} {bytes : List ℕ} {lines : List (List ℕ)} {r : LinesRead} {now : Option (List ℕ)} → Handed first bytes lines r now → (ended : Bool) → r.ended ≡ ended → BeginsWithLines bytes now lines
first_lines {bytes = bytes} {lines = lines} {r = r} handed false going =
    (ended_lines_of r.held, inl (rw (append-nil bytes, append-nil r.held) at (handed.leaves.by_feed [] going)))
first_lines {bytes = bytes} {lines = lines} {r = r} handed true told =
    (lines_of r.held, inr (handed.knows_end told, rw (append-nil bytes, append-nil r.held) at (handed.leaves.every [] (λ _. refl))))

are_first : {first : Option (List ℕ)} {lines : List (List ℕ)} {r : LinesRead} {now : Option (List ℕ)} → ((bytes : List ℕ) × Handed first bytes lines r now) → r.taken ≤ 2 ^ 40 → AreFirstLines first now lines
are_first {r = r} (bytes, handed) limit = (bytes, handed.left, rw (← handed.counted) limit, first_lines handed r.ended refl)

all_given : (first : Option (List ℕ)) (bytes : List ℕ) (now : Option (List ℕ)) → first ≡ piece_then bytes now → IsEnd now → (first ≡ None) ⊎ ((first ≡ Some bytes) × (now ≡ Some []))
all_given first bytes None e end = inl e
all_given first bytes (Some rest) e end = inr (e ∙ ap Some (rw end (append-nil bytes)), ap Some end)

are_all : (first : Option (List ℕ)) (bytes : List ℕ) (now : Option (List ℕ)) (lines : List (List ℕ)) → (first ≡ None) ⊎ ((first ≡ Some bytes) × (now ≡ Some [])) → length bytes < 2 ^ 40 → lines_of bytes ≡ lines → AreAllLines first now lines
are_all None bytes now lines found below same = tt
are_all (Some all) bytes now lines (inl e) below same = absurd (cc e)
are_all (Some all) bytes now lines (inr e) below same =
    let whole : all ≡ bytes = cc e.0 in (e.1, rw whole below, sym same ∙ ap lines_of (sym whole))

-- ---- one turn

module _ (Kept More Next : List (List ℕ) → Type 0) (But : List ℕ → Type 0) (Over : ℕ → Type 0) (join : (done one : List (List ℕ)) → Kept done → More one → Next (done ++ one))
    {at_first : WorldState} {first before : Option (List ℕ)} {old : LinesRead} {left : Option (List ℕ)} {world : WorldState} {written : Option (List ℕ)} (way : IsUnderWay Kept at_first first before old left world written)
    (new : LinesRead) (now : Option (List ℕ)) (next : WorldState) (block : List ℕ) (one : List (List ℕ)) where
  -- nothing more is kept
  no_more : More [] → Next way.done
  no_more more = subst Next (append-nil way.done) (join way.done [] way.kept more)

  -- The turn handed out a line and answered it.
  pub record HasAnswered : Type 0 where
    pub line : List ℕ
    pub handed : (bytes : List ℕ) × Handed first bytes (way.lines ++ line ∷ []) new now
    pub answers : AnswersKeeping world line block one next
    pub more : More one

  answered : (answer : Answer) → HandsOut old left answer new now → TakesTurn More But Over world answer (Ok true) block one next → HasAnswered
  answered (WholeLine line) out (answers, more) = record { line = line; handed = Handed-next (WholeLine line) way.handed out; answers = answers; more = more }
  answered OverLine out (is, none, refused, more) =
      let handed = Handed-next OverLine way.handed out in
      record { line = handed.1; handed = (handed.0, handed.3); answers = inr (refused handed.1 handed.2, none); more = subst More (sym none) more }
  answered NoLine out (is, none, same, more) = absurd (cc is)
  answered Fault out (is, none, same, more) = absurd (cc is)
  answered TooLong out (is, none, same, more) = absurd (cc is)

  -- its reply was written
  pub IsUnderWay-next : {after : Option (List ℕ)} (answer : Answer) → HandsOut old left answer new now → TakesTurn More But Over world answer (Ok true) block one next → after ≡ then_piece written block → IsUnderWay Next at_first first before new now next after
  IsUnderWay-next answer out what wrote =
      let a = answered answer out what in
      record {
        bytes = a.handed.0;
        lines = way.lines ++ a.line ∷ [];
        text = way.text ++ block;
        done = way.done ++ one;
        handed = a.handed.1;
        keeps = Keeps-more at_first way.lines way.text way.done world a.line block one next way.keeps a.answers;
        wrote = wrote ∙ ap (λ (w : Option (List ℕ)). then_piece w block) way.wrote ∙ then_piece-append before way.text block;
        kept = join way.done one way.kept a.more;
      }

  -- or a beginning of it, since the sink failed
  pub stopped_by_sink : {after : Option (List ℕ)} (answer : Answer) → HandsOut old left answer new now → TakesTurn More But Over world answer (Ok true) block one next → AddsPrefix written block after → KeepsCut Next at_first first before now after
  stopped_by_sink answer out what (front, back, parts, added) =
      let a = answered answer out what in (
        way.lines,
        a.line,
        are_first a.handed out.limit,
        record {
          text = way.text;
          done = way.done;
          mid = world;
          keeps = way.keeps;
          block = block;
          one = one;
          new = next;
          answers = a.answers;
          wrote = (front, back, parts, added ∙ ap (λ (w : Option (List ℕ)). then_piece w front) way.wrote);
          kept = join way.done one way.kept a.more;
        },
      )

  -- what stands where no line was handed out
  stands : (lines : List (List ℕ)) → lines ≡ way.lines → More [] → AnswersLines Next at_first before written lines
  stands lines same more = record {
    text = way.text;
    done = way.done;
    new = world;
    keeps = subst (λ (ls : List (List ℕ)). Keeps at_first ls way.text way.done world) (sym same) way.keeps;
    wrote = way.wrote;
    kept = no_more more;
  }

  -- the source failed
  pub stopped_by_fault : (answer : Answer) → HandsOut old left answer new now → TakesTurn More But Over world answer (Err ReadFault) block one next → KeepsTaken (λ n. n < 2 ^ 40) Next at_first first before now written
  stopped_by_fault (WholeLine line) out what = absurd what
  stopped_by_fault OverLine out (is, none, same, more) = absurd (cc is)
  stopped_by_fault NoLine out (is, none, same, more) = absurd (cc is)
  stopped_by_fault Fault out (is, none, same, more) =
      let s = Handed-next Fault way.handed out in
      (way.lines, (s.0, s.1.left, rw (← s.1.counted) out.bytes.2, sym s.1.by_feed), stands way.lines refl more)
  stopped_by_fault TooLong out (is, none, same, more) = absurd (cc is)

  -- the input is too long
  pub stopped_by_length : (answer : Answer) → HandsOut old left answer new now → TakesTurn More But Over world answer (Err InputTooLong) block one next → KeepsTaken (λ n. n ≡ 2 ^ 40) Next at_first first before now written
  stopped_by_length (WholeLine line) out what = absurd what
  stopped_by_length OverLine out (is, none, same, more) = absurd (cc is)
  stopped_by_length NoLine out (is, none, same, more) = absurd (cc is)
  stopped_by_length Fault out (is, none, same, more) = absurd (cc is)
  stopped_by_length TooLong out (is, none, same, more) =
      let s = Handed-next TooLong way.handed out in
      (way.lines, (s.0, s.1.left, rw (← s.1.counted) out.bytes.2, sym s.1.by_feed), stands way.lines refl more)

  -- the source told its end
  pub ended_well : (answer : Answer) → HandsOut old left answer new now → TakesTurn More But Over world answer (Ok false) block one next → KeepsAll Next at_first first before now written
  ended_well (WholeLine line) out what = absurd what
  ended_well OverLine out (is, none, same, more) = absurd (cc is)
  ended_well NoLine out (is, none, same, more) =
      let s = Handed-next NoLine way.handed out in
      (way.lines, are_all first s.0 now way.lines (all_given first s.0 now s.1.left (s.1.knows_end out.bytes.2)) s.3 s.2, stands way.lines refl more)
  ended_well Fault out (is, none, same, more) = absurd (cc is)
  ended_well TooLong out (is, none, same, more) = absurd (cc is)

  -- a line is done, and is not kept
  before_line : (Last : List (List ℕ) → List ℕ → Type 0) (line : List ℕ) → ((bytes : List ℕ) × Handed first bytes (way.lines ++ line ∷ []) new now) → new.taken ≤ 2 ^ 40 → IsDone world line block next → Last way.done line → KeepsBefore Last at_first first before now written
  before_line Last line handed limit done last = (
    way.lines,
    line,
    are_first handed limit,
    record { text = way.text; done = way.done; mid = world; keeps = way.keeps; block = block; new = next; is_done = done; wrote = way.wrote; kept = last },
  )

  -- the disk failed
  pub stopped_by_disk : (Last : List (List ℕ) → List ℕ → Type 0) → ((done : List (List ℕ)) (line : List ℕ) → Kept done → But line → Last done line) → (answer : Answer) → HandsOut old left answer new now → TakesTurn More But Over world answer (Err DiskFault) block one next → KeepsBefore Last at_first first before now written
  stopped_by_disk Last joins (WholeLine line) out (done, but) =
      before_line Last line (Handed-next (WholeLine line) way.handed out) out.limit done (joins way.done line way.kept but)
  stopped_by_disk Last joins OverLine out (is, none, same, more) = absurd (cc is)
  stopped_by_disk Last joins NoLine out (is, none, same, more) = absurd (cc is)
  stopped_by_disk Last joins Fault out (is, none, same, more) = absurd (cc is)
  stopped_by_disk Last joins TooLong out (is, none, same, more) = absurd (cc is)

  -- the journal is full
  pub stopped_by_room : (Last : List (List ℕ) → List ℕ → Type 0) → ((done : List (List ℕ)) (line : List ℕ) → Kept done → Over (6 + length line) → More [] → Last done line) → (answer : Answer) → HandsOut old left answer new now → TakesTurn More But Over world answer (Err Full) block one next → KeepsBefore Last at_first first before now written
  stopped_by_room Last joins (WholeLine line) out (done, over, more) =
      before_line Last line (Handed-next (WholeLine line) way.handed out) out.limit done (joins way.done line way.kept over more)
  stopped_by_room Last joins OverLine out (is, none, same, more) = absurd (cc is)
  stopped_by_room Last joins NoLine out (is, none, same, more) = absurd (cc is)
  stopped_by_room Last joins Fault out (is, none, same, more) = absurd (cc is)
  stopped_by_room Last joins TooLong out (is, none, same, more) = absurd (cc is)

  -- the bytes that are still to come get fewer with each line
  pub falls : (answer : Answer) → HandsOut old left answer new now → TakesTurn More But Over world answer (Ok true) block one next → length new.held + old.taken < length old.held + new.taken
  falls (WholeLine line) out what = out.progress
  falls OverLine out what = out.progress
  falls NoLine out (is, none, same, more) = absurd (cc is)
  falls Fault out (is, none, same, more) = absurd (cc is)
  falls TooLong out (is, none, same, more) = absurd (cc is)
