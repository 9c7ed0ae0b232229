-- One call after the other: what has come of a source since its lines began to be handed out.
-- A caller's loop keeps `Handed first bytes lines READING LEFT` for some bytes and lines. It begins by
-- `Handed-first`; after `lines.next(source)?` in an arm `Next::Whole(line)` it goes on by
--     let is = c.in_ok-next.was ∙ ap Ok c.in-Whole.is in
--     Handed-next _ handed (rw is at c.next.follows.holds-at-none)
-- and it ends by the measure `2 ^ 40 - l.lines.taken + length l.lines.held`.
use Rattle.std.proofs.Common.{◌≡◌, ℕ, List, [], ◌∷◌, ◌++◌, length, true, false, Option, Some, None, IfSome, sym, ap, subst, ◌∙◌, arith, append-nil, length-append}
use Rattle.std.proofs.lemmas.Bool.{both_ways}
use Rattle.ld_base.specs.Outside.{piece_then}
use Rattle.ld_lines.specs.Lines.{lines_of, ended_lines_of}
use Rattle.ld_lines.specs.Reading.{LinesRead, IsEnd, Takes, Leaves}
use Rattle.ld_lines.specs.Answer.{Answer, WholeLine, OverLine, NoLine, Fault, TooLong, HandsOut}
use Rattle.ld_lines.specs.Handed.{Handed, Stopped, HandedOn}
use Rattle.ld_lines.proofs.Cuts.{piece_then-nil, piece_then-more, Leaves-none, Leaves-more, not_ended}
use Rattle.ld_lines.proofs.Pieces.{lines_of-nil}

-- Nothing was taken, and nothing handed out.
pub Handed-first : (first : Option (List ℕ)) (r : LinesRead) → r.held ≡ [] → r.taken ≡ 0 → r.ended ≡ false → Handed first [] [] r first
Handed-first first r nothing zero going = record {
  left = piece_then-nil first;
  counted = zero;
  knows_end = λ e. absurd (both_ways r.ended going e);
  leaves = subst (λ xs. Leaves xs [] r) nothing (Leaves-none r);
}

module _ {first : Option (List ℕ)} {bytes : List ℕ} {lines : List (List ℕ)} {old new : LinesRead} {before now : Option (List ℕ)} (handed : Handed first bytes lines old before) (piece : List ℕ) (takes : Takes old before piece new now) where
  left : first ≡ piece_then (bytes ++ piece) now
  left = handed.left ∙ ap (piece_then bytes) takes.left ∙ piece_then-more bytes piece now

  counted : new.taken ≡ length (bytes ++ piece)
  counted = omega (arith, handed.counted, takes.counted, length-append bytes piece)

  on : (later : List (List ℕ)) → Leaves (old.held ++ piece) later new → Handed first (bytes ++ piece) (lines ++ later) new now
  on later leaves = record {
    left = left;
    counted = counted;
    knows_end = takes.knows_end handed.knows_end;
    leaves = Leaves-more bytes piece lines later handed.leaves takes leaves;
  }

  stopped : ended_lines_of (old.held ++ piece) ≡ [] → new.ended ≡ false → Stopped first (bytes ++ piece) lines new now
  stopped none going = record {
    left = left;
    counted = counted;
    by_feed = handed.leaves.by_feed piece (not_ended old.ended new.ended takes.stays_ended going) ∙ ap (λ xs. lines ++ xs) none ∙ append-nil lines;
  }

  ended : lines_of (old.held ++ piece) ≡ [] → lines_of (bytes ++ piece) ≡ lines
  ended none = handed.leaves.every piece takes.none_after_end ∙ ap (λ xs. lines ++ xs) none ∙ append-nil lines

  finished : lines_of (old.held ++ piece) ≡ [] → new.held ≡ [] → new.ended ≡ true → Handed first (bytes ++ piece) lines new now
  finished none nothing told = record {
    left = left;
    counted = counted;
    knows_end = takes.knows_end handed.knows_end;
    leaves = record {
      every = λ more no_more.
          rw (no_more told, nothing, append-nil (bytes ++ piece), lines_of-nil) (ended none ∙ sym (append-nil lines));
      by_feed = λ more going. absurd (both_ways new.ended going told);
    };
  }

  all_of : new.ended ≡ true → IfSome first (λ all. bytes ++ piece ≡ all)
  all_of told = at_end now left (takes.knows_end handed.knows_end told)
    where
      at_end : (now : Option (List ℕ)) → first ≡ piece_then (bytes ++ piece) now → IsEnd now → IfSome first (λ all. bytes ++ piece ≡ all)
      at_end None is end = rw is tt
      at_end (Some rest) is end = rw (is, end) (sym (append-nil (bytes ++ piece)))

-- One more call.
pub Handed-next : {first : Option (List ℕ)} {bytes : List ℕ} {lines : List (List ℕ)} {old new : LinesRead} {before now : Option (List ℕ)} (answer : Answer) → Handed first bytes lines old before → HandsOut old before answer new now → HandedOn first lines answer new now
Handed-next (WholeLine line) handed out = (_, on handed out.piece out.takes (line ∷ []) out.bytes.1)
Handed-next OverLine handed out = (_, out.bytes.0, out.bytes.1, on handed out.piece out.takes (out.bytes.0 ∷ []) out.bytes.2)
Handed-next NoLine handed out =
    let none = out.bytes.0 in
    let count = counted handed out.piece out.takes in (
      _,
      finished handed out.piece out.takes none out.bytes.1 out.bytes.2,
      ended handed out.piece out.takes none,
      rw (← count) out.bytes.3,
      all_of handed out.piece out.takes out.bytes.2,
    )
Handed-next Fault handed out = (_, stopped handed out.piece out.takes out.bytes.0 out.bytes.1)
Handed-next TooLong handed out = (_, stopped handed out.piece out.takes out.bytes.0 out.bytes.1)
