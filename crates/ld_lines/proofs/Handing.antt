-- From pieces to lines: what is passed over, and what one call hands out.
use Rattle.std.proofs.Common.{◌≡◌, ℕ, ◌+◌, ◌<◌, ◌≤◌, ◌^◌, List, [], ◌∷◌, ◌++◌, length, true, false, Option, Some, None, IfSome, Err, refl, sym, ap, subst, ◌∙◌, arith, append_assoc, append-nil, length-append, nat_le, ◌≢◌}
use Rattle.std.proofs.lemmas.Bool.{and_left, and_right, lt-leb, le-leb}
use Rattle.std.specs.List.{list_all}
use Rattle.ld_lines.specs.Lines.{lines_of, ended_lines_of, is_passed_over, is_blank, lines_from, line_then, HasNoFeed}
use Rattle.ld_lines.specs.Reading.{LinesRead, IsEnd, KnowsEnd, Takes, Leaves}
use Rattle.ld_lines.specs.Answer.{Answer, WholeLine, OverLine, NoLine, Fault, TooLong, HandsOut}
use Rattle.ld_lines.specs.Cutting.{CutsOff, StopsAt, answer_of_cut}
use Rattle.ld_lines.specs.declared.stop.LineStop.{LineStop}
use Rattle.ld_lines.specs.declared.stop.LineStop.TheVariants.{ReadFault, InputTooLong}
use Rattle.ld_lines.proofs.Pieces.{lines_of-nil, ended_lines_of-none, without_blank-kept, without_blank-passed}
use Rattle.ld_lines.proofs.Cuts.{Takes-none, Takes-more, Ends-shorter, Leaves-none, Leaves-piece, Leaves-more, not_ended}

-- What was held and taken is passed over, up to what is held now.
pub record Passed (old : LinesRead) (before : Option (List ℕ)) (r : LinesRead) (now : Option (List ℕ)) : Type 0 where
  pub piece : List ℕ
  pub takes : Takes old before piece r now
  pub leaves : Leaves (old.held ++ piece) [] r
  pub shorter : length r.held ≤ length old.held + length piece

pub Passed-none : (r : LinesRead) (left : Option (List ℕ)) → Passed r left r left
Passed-none r left = record {
  piece = [];
  takes = Takes-none r left;
  leaves = subst (λ xs. Leaves xs [] r) (sym (append-nil r.held)) (Leaves-none r);
  shorter = omega arith;
}

-- The lines of what the source had left, by those of what it has left.
lines_from-line : {old new : LinesRead} {before : Option (List ℕ)} {piece line : List ℕ} (now : Option (List ℕ)) → Takes old before piece new now → Leaves (old.held ++ piece) (line ∷ []) new → KnowsEnd new now → lines_from old.held before ≡ line_then line (lines_from new.held now)
lines_from-line {old} None takes leaves ends = ap (lines_from old.held) takes.left
lines_from-line {old} {piece = piece} (Some rest) takes leaves ends =
    ap (lines_from old.held) takes.left ∙ ap Some (ap lines_of (sym (append_assoc old.held piece rest)) ∙ leaves.every rest ends)

lines_from-nil : {old new : LinesRead} {before : Option (List ℕ)} {piece : List ℕ} (now : Option (List ℕ)) → Takes old before piece new now → lines_of (old.held ++ piece) ≡ [] → IsEnd now → IfSome (lines_from old.held before) (λ lines. lines ≡ [])
lines_from-nil None takes none ends = rw takes.left tt
lines_from-nil {piece = piece} (Some rest) takes none ends = rw (takes.left, ends, append-nil piece) none

not_blank : (line : List ℕ) → list_all is_blank line ≡ false → is_passed_over line ≡ false
not_blank line h = and_right (nat_le (length line) 65536) (list_all is_blank line) h

too_long : (line : List ℕ) → 65536 < length line → is_passed_over line ≡ false
too_long line h = and_left (nat_le (length line) 65536) (list_all is_blank line) (lt-leb (length line) 65536 h)

blank : (line : List ℕ) → length line ≤ 65536 → list_all is_blank line ≡ true → is_passed_over line ≡ true
blank line short h = rw (h, le-leb (length line) 65536 short) refl

-- One more piece behind what was passed over.
module _ {old mid new : LinesRead} {before between now : Option (List ℕ)} (answer : Answer) (passed : Passed old before mid between) (cut : CutsOff mid between answer new now) where
  abbrev taken : Takes old before (passed.piece ++ cut.piece) new now
  taken = Takes-more passed.takes cut.takes

  more : (lines : List (List ℕ)) → Leaves (mid.held ++ cut.piece) lines new → Leaves (old.held ++ (passed.piece ++ cut.piece)) lines new
  more lines leaves =
      subst (λ xs. Leaves xs lines new) (append_assoc old.held passed.piece cut.piece)
      (Leaves-more (old.held ++ passed.piece) cut.piece [] lines passed.leaves cut.takes leaves)

  after_end : old.ended ≡ true → answer ≡ NoLine
  after_end e = cut.after_end (passed.takes.stays_ended e)

  progress : length new.held < length (mid.held ++ cut.piece) → length new.held + old.taken < length old.held + new.taken
  progress shorter = omega (arith, passed.shorter, passed.takes.counted, cut.takes.counted, length-append mid.held cut.piece)

  knows_end : answer ≢ NoLine → KnowsEnd new now
  knows_end some = taken.knows_end (λ e. absurd (some (after_end e)))

  ended_none : HasNoFeed (mid.held ++ cut.piece) → new.ended ≡ false → ended_lines_of (old.held ++ (passed.piece ++ cut.piece)) ≡ []
  ended_none clear going =
      ap ended_lines_of (sym (append_assoc old.held passed.piece cut.piece))
      ∙ passed.leaves.by_feed cut.piece (not_ended mid.ended new.ended cut.takes.stays_ended going)
      ∙ ended_lines_of-none (mid.held ++ cut.piece) clear

pub Passed-more : {old mid new : LinesRead} {before between now : Option (List ℕ)} {line : List ℕ} → Passed old before mid between → CutsOff mid between (WholeLine line) new now → list_all is_blank line ≡ true → Passed old before new now
Passed-more {old} {mid} {new} {before} {between} {now} {line} passed cut all_blank =
    let ends = cut.cuts_of.0 in
    let one = Leaves-piece (mid.held ++ cut.piece) line new ends in
    record {
      piece = passed.piece ++ cut.piece;
      takes = taken (WholeLine line) passed cut;
      leaves = more (WholeLine line) passed cut [] (subst (λ lines. Leaves (mid.held ++ cut.piece) lines new) (without_blank-passed line (blank line cut.cuts_of.1 all_blank)) one);
      shorter = omega (arith, passed.shorter, length-append mid.held cut.piece, length-append passed.piece cut.piece, Ends-shorter (mid.held ++ cut.piece) line new ends);
    }

nothing : (xs : List ℕ) → length xs ≡ 0 → xs ≡ []
nothing [] e = refl
nothing (x ∷ xs) e = absurd (cc e)

-- A piece that is passed over takes no ended line with it, where nothing more was taken.
pub same_ended : {mid new : LinesRead} {between now : Option (List ℕ)} {line : List ℕ} → CutsOff mid between (WholeLine line) new now → list_all is_blank line ≡ true → new.taken ≡ mid.taken → new.ended ≡ false → ended_lines_of mid.held ≡ ended_lines_of new.held
same_ended {mid} {new} {between} {now} {line} cut all_blank same going =
    let none : cut.piece ≡ [] = nothing cut.piece (omega (arith, cut.takes.counted, same)) in
    let one = Leaves-piece (mid.held ++ cut.piece) line new cut.cuts_of.0 in
    sym (ap ended_lines_of (append-nil (mid.held ++ cut.piece) ∙ ap (λ xs. mid.held ++ xs) none ∙ append-nil mid.held))
    ∙ one.by_feed [] going
    ∙ ap (λ lines. lines ++ ended_lines_of (new.held ++ [])) (without_blank-passed line (blank line cut.cuts_of.1 all_blank))
    ∙ ap ended_lines_of (append-nil new.held)

-- Where an ended line is held, a cut asks nothing, and so the source is the first one still.
pub still_unasked : {S : Type 0} {first mid last : S} (held : List ℕ) → (mid ≡ first) × (ended_lines_of held ≢ []) → ((HasNoFeed held → ⊥) → last ≡ mid) → last ≡ first
still_unasked held was asks = asks (λ clear. was.1 (ended_lines_of-none held clear)) ∙ was.0

-- What `advance` answers, by what the last piece was.
pub HandsOut-whole : {old mid new : LinesRead} {before between now : Option (List ℕ)} {line : List ℕ} → Passed old before mid between → CutsOff mid between (WholeLine line) new now → list_all is_blank line ≡ false → new.taken ≤ 2 ^ 40 → HandsOut old before (WholeLine line) new now
HandsOut-whole {old} {mid} {new} {before} {between} {now} {line} passed cut some limit =
    let answer = WholeLine line in
    let ends = cut.cuts_of.0 in
    let kept = not_blank line some in
    let one = subst (λ lines. Leaves (mid.held ++ cut.piece) lines new) (without_blank-kept line kept) (Leaves-piece (mid.held ++ cut.piece) line new ends) in
    let leaves = more answer passed cut (line ∷ []) one in
    record {
      lines = lines_from-line now (taken answer passed cut) leaves (knows_end answer passed cut (λ e. cc));
      after_end = after_end answer passed cut;
      piece = passed.piece ++ cut.piece;
      takes = taken answer passed cut;
      bytes = ((cut.cuts_of.1, kept), leaves);
      progress = progress answer passed cut (Ends-shorter (mid.held ++ cut.piece) line new ends);
      limit = limit;
    }

pub HandsOut-over : {old mid new : LinesRead} {before between now : Option (List ℕ)} → Passed old before mid between → CutsOff mid between OverLine new now → new.taken ≤ 2 ^ 40 → HandsOut old before OverLine new now
HandsOut-over {old} {mid} {new} {before} {between} {now} passed cut limit =
    let long = cut.cuts_of.0 in
    let ends = cut.cuts_of.1 in
    let over = cut.cuts_of.2 in
    let one = subst (λ lines. Leaves (mid.held ++ cut.piece) lines new) (without_blank-kept long (too_long long over)) (Leaves-piece (mid.held ++ cut.piece) long new ends) in
    let leaves = more OverLine passed cut (long ∷ []) one in
    record {
      lines = (long, over, lines_from-line now (taken OverLine passed cut) leaves (knows_end OverLine passed cut (λ e. cc)));
      after_end = after_end OverLine passed cut;
      piece = passed.piece ++ cut.piece;
      takes = taken OverLine passed cut;
      bytes = (long, over, leaves);
      progress = progress OverLine passed cut (Ends-shorter (mid.held ++ cut.piece) long new ends);
      limit = limit;
    }

pub HandsOut-none : {old mid new : LinesRead} {before between now : Option (List ℕ)} → Passed old before mid between → CutsOff mid between NoLine new now → new.taken ≤ 2 ^ 40 → HandsOut old before NoLine new now
HandsOut-none {old} {mid} {new} {before} {between} {now} passed cut limit =
    let nothing : mid.held ++ cut.piece ≡ [] = cut.cuts_of.0 in
    let told : new.ended ≡ true = cut.cuts_of.2 in
    let none : lines_of (old.held ++ (passed.piece ++ cut.piece)) ≡ [] =
    ap lines_of (sym (append_assoc old.held passed.piece cut.piece))
    ∙ passed.leaves.every cut.piece cut.takes.none_after_end
    ∙ ap lines_of nothing
    ∙ lines_of-nil in
    record {
      lines = λ knows. let end = (taken NoLine passed cut).knows_end knows told in (end, lines_from-nil now (taken NoLine passed cut) none end);
      after_end = after_end NoLine passed cut;
      piece = passed.piece ++ cut.piece;
      takes = taken NoLine passed cut;
      bytes = (none, cut.cuts_of.1, told, cut.cuts_of.3);
      progress = tt;
      limit = limit;
    }

HandsOut-fault : {old mid new : LinesRead} {before between now : Option (List ℕ)} → Passed old before mid between → CutsOff mid between Fault new now → new.taken < 2 ^ 40 → HandsOut old before Fault new now
HandsOut-fault {old} {mid} {new} {before} {between} {now} passed cut below = record {
  lines = tt;
  after_end = after_end Fault passed cut;
  piece = passed.piece ++ cut.piece;
  takes = taken Fault passed cut;
  bytes = (ended_none Fault passed cut cut.cuts_of.0 cut.cuts_of.1, cut.cuts_of.1, below);
  progress = tt;
  limit = omega arith;
}

HandsOut-too_long : {old mid new : LinesRead} {before between now : Option (List ℕ)} → Passed old before mid between → CutsOff mid between TooLong new now → new.taken ≡ 2 ^ 40 → HandsOut old before TooLong new now
HandsOut-too_long {old} {mid} {new} {before} {between} {now} passed cut full = record {
  lines = tt;
  after_end = after_end TooLong passed cut;
  piece = passed.piece ++ cut.piece;
  takes = taken TooLong passed cut;
  bytes = (ended_none TooLong passed cut cut.cuts_of.0 cut.cuts_of.1, cut.cuts_of.1, full);
  progress = tt;
  limit = omega arith;
}

pub HandsOut-stop : {old mid new : LinesRead} {before between now : Option (List ℕ)} (line : List ℕ) (stop : LineStop) → Passed old before mid between → CutsOff mid between (answer_of_cut line (Err stop)) new now → StopsAt stop new.taken → HandsOut old before (answer_of_cut line (Err stop)) new now
HandsOut-stop line ReadFault passed cut below = HandsOut-fault passed cut below
HandsOut-stop line InputTooLong passed cut full = HandsOut-too_long passed cut full
