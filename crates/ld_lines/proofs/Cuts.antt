-- Takes, one after the other, and the pieces that are cut off what was taken.
use Rattle.std.proofs.Common.{◌≡◌, ℕ, ◌+◌, ◌<◌, List, [], ◌∷◌, ◌++◌, length, take, drop, Bool, true, false, Option, Some, None, refl, sym, ap, subst, ◌∙◌, arith, append_assoc, append-nil, length-append, inl, inr, ⊎_elim}
use Rattle.std.proofs.lemmas.Bool.{both_ways, cases_Bool}
use Rattle.ld_base.specs.Outside.{piece_then}
use Rattle.ld_lines.specs.Lines.{HasNoFeed, without_blank, lines_of, ended_lines_of}
use Rattle.ld_lines.specs.Reading.{LinesRead, KnowsEnd, Takes, Leaves}
use Rattle.ld_lines.specs.Answer.{Answer, WholeLine, OverLine}
use Rattle.ld_lines.specs.Cutting.{Ends, FeedAt, Fetches, CutsOf, CutsOff}
use Rattle.ld_lines.proofs.Feeds.{HasNoFeed-append}
use Rattle.ld_lines.proofs.Pieces.{lines_of-ended, ended_lines_of-ended, lines_of-last, lines_of-nil}

pub piece_then-nil : (left : Option (List ℕ)) → left ≡ piece_then [] left
piece_then-nil None = refl
piece_then-nil (Some rest) = refl

pub piece_then-more : (xs ys : List ℕ) (left : Option (List ℕ)) → piece_then xs (piece_then ys left) ≡ piece_then (xs ++ ys) left
piece_then-more xs ys None = refl
piece_then-more xs ys (Some rest) = ap Some (sym (append_assoc xs ys rest))

nil-append : (xs ys : List ℕ) → xs ≡ [] → ys ≡ [] → xs ++ ys ≡ []
nil-append xs ys p q = rw (p, q) refl

pub Takes-none : (r : LinesRead) (left : Option (List ℕ)) → Takes r left [] r left
Takes-none r left = record {
  left = piece_then-nil left;
  counted = omega arith;
  none_after_end = λ _. refl;
  stays_ended = λ e. e;
  knows_end = λ k. k;
}

pub Takes-more : {a b c : LinesRead} {x y z : Option (List ℕ)} {xs ys : List ℕ} → Takes a x xs b y → Takes b y ys c z → Takes a x (xs ++ ys) c z
Takes-more {a} {b} {c} {x} {y} {z} {xs} {ys} p q = record {
  left = p.left ∙ ap (piece_then xs) q.left ∙ piece_then-more xs ys z;
  counted = omega (arith, length-append xs ys, p.counted, q.counted);
  none_after_end = λ e. nil-append xs ys (p.none_after_end e) (q.none_after_end (p.stays_ended e));
  stays_ended = λ e. q.stays_ended (p.stays_ended e);
  knows_end = λ k. q.knows_end (p.knows_end k);
}

-- What was taken stays what it was while the reading goes on among the held bytes.
pub Takes-same : {old mid new : LinesRead} {before now : Option (List ℕ)} {piece : List ℕ} → Takes old before piece mid now → mid.ended ≡ false → new.taken ≡ mid.taken → KnowsEnd new now → Takes old before piece new now
Takes-same {old} {mid} {new} p going count ends = record {
  left = p.left;
  counted = count ∙ p.counted;
  none_after_end = p.none_after_end;
  stays_ended = λ e. absurd (both_ways mid.ended going (p.stays_ended e));
  knows_end = λ _. ends;
}

pub Fetches-none : (r : LinesRead) (left : Option (List ℕ)) → r.ended ≡ false → Fetches r left r left
Fetches-none r left going = record {
  piece = [];
  takes = Takes-none r left;
  held = sym (append-nil r.held);
  ended = going;
}

pub Fetches-more : {a b c : LinesRead} {x y z : Option (List ℕ)} → Fetches a x b y → Fetches b y c z → Fetches a x c z
Fetches-more {a} p q = record {
  piece = p.piece ++ q.piece;
  takes = Takes-more p.takes q.takes;
  held = q.held ∙ ap (λ xs. xs ++ q.piece) p.held ∙ append_assoc a.held p.piece q.piece;
  ended = q.ended;
}

-- a cut behind the bytes that were fetched
pub CutsOff-more : {old mid new : LinesRead} {before between now : Option (List ℕ)} (answer : Answer) → Fetches old before mid between → CutsOff mid between answer new now → CutsOff old before answer new now
CutsOff-more {old} {mid} {new} answer p q = record {
  after_end = λ e. absurd (both_ways mid.ended p.ended (p.takes.stays_ended e));
  piece = p.piece ++ q.piece;
  takes = Takes-more p.takes q.takes;
  cuts_of = subst (λ bytes. CutsOf bytes answer new) (ap (λ xs. xs ++ q.piece) p.held ∙ append_assoc old.held p.piece q.piece) q.cuts_of;
}

-- a piece that is passed over: what was held and taken is a part of it
pub record Passing (old : LinesRead) (before : Option (List ℕ)) (r : LinesRead) (now : Option (List ℕ)) : Type 0 where
  pub piece : List ℕ
  pub takes : Takes old before piece r now
  pub clear : HasNoFeed (old.held ++ piece)
  pub long : 65536 < length (old.held ++ piece)
  pub ended : r.ended ≡ false

-- What a take is depends on the count and the end alone, not on what is held.
pub Takes-from : {r s new : LinesRead} {x y : Option (List ℕ)} {piece : List ℕ} → s.taken ≡ r.taken → s.ended ≡ r.ended → Takes s x piece new y → Takes r x piece new y
Takes-from {r} {s} {new} {x} {y} {piece} count ends p = record {
  left = p.left;
  counted = omega (arith, p.counted);
  none_after_end = λ e. p.none_after_end (ends ∙ e);
  stays_ended = λ e. p.stays_ended (ends ∙ e);
  knows_end = λ k. p.knows_end (λ e. k (sym ends ∙ e));
}

module _ {old r cleared new : LinesRead} {before x now : Option (List ℕ)} (passing : Passing old before r x)
    (nothing : cleared.held ≡ []) (count : cleared.taken ≡ r.taken) (ends : cleared.ended ≡ r.ended) (p : Fetches cleared x new now) where
  taken : Takes old before (passing.piece ++ p.piece) new now
  taken = Takes-more passing.takes (Takes-from count ends p.takes)

  fresh : new.held ≡ p.piece
  fresh = p.held ∙ ap (λ xs. xs ++ p.piece) nothing

  all : old.held ++ (passing.piece ++ p.piece) ≡ (old.held ++ passing.piece) ++ new.held
  all = sym (append_assoc old.held passing.piece p.piece) ∙ ap (λ xs. (old.held ++ passing.piece) ++ xs) (sym fresh)

  -- no line feed is among what was fetched
  pub Passing-more : HasNoFeed new.held → Passing old before new now
  unfolding taken fresh all
  Passing-more clear = record {
    piece = passing.piece ++ p.piece;
    takes = taken;
    clear = rw all (HasNoFeed-append (old.held ++ passing.piece) new.held passing.clear clear);
    long = rw all (omega (arith, passing.long, length-append (old.held ++ passing.piece) new.held));
    ended = p.ended;
  }

  -- the first line feed among what was fetched ends the piece
  pub Passing-cut : (at : ℕ) (cut : LinesRead) → FeedAt new.held (Some at) → cut.held ≡ drop (at + 1) new.held → cut.taken ≡ new.taken → cut.ended ≡ false → CutsOff old before OverLine cut now
  unfolding taken fresh all
  Passing-cut at cut (within, clear, parts) held same going = record {
    after_end = λ e. absurd (both_ways new.ended p.ended (taken.stays_ended e));
    piece = passing.piece ++ p.piece;
    takes = Takes-same taken p.ended same (λ e. absurd (both_ways cut.ended going e));
    cuts_of = (
      (old.held ++ passing.piece) ++ take at new.held,
      (
        HasNoFeed-append (old.held ++ passing.piece) (take at new.held) passing.clear clear,
        inl (all ∙ ap (λ xs. (old.held ++ passing.piece) ++ xs) (parts ∙ ap (λ xs. take at new.held ++ 10 ∷ xs) (sym held)) ∙ sym (append_assoc (old.held ++ passing.piece) (take at new.held) (10 ∷ cut.held)), going),
      ),
      omega (arith, passing.long, length-append (old.held ++ passing.piece) (take at new.held)),
    );
  }

-- An ended piece makes the bytes fewer.
pub Ends-shorter : (bytes piece : List ℕ) (r : LinesRead) → Ends bytes piece r → length r.held < length bytes
Ends-shorter bytes piece r (clear, inl p) = omega (arith, ap length p.0, length-append piece (10 ∷ r.held))
Ends-shorter bytes piece r (clear, inr p) = omega (arith, ap length p.0, ap length p.1)

pub CutsOff-progress : {old new : LinesRead} {before now : Option (List ℕ)} {line : List ℕ} → CutsOff old before (WholeLine line) new now → length new.held + old.taken < length old.held + new.taken
CutsOff-progress {old} {new} {before} {now} {line} cut =
    omega (arith, cut.takes.counted, length-append old.held cut.piece, Ends-shorter (old.held ++ cut.piece) line new cut.cuts_of.0)

pub Leaves-none : (r : LinesRead) → Leaves r.held [] r
Leaves-none r = record { every = λ more none. refl; by_feed = λ more going. refl }

-- An ended piece is a line, unless it is passed over.
pub Leaves-piece : (bytes piece : List ℕ) (r : LinesRead) → Ends bytes piece r → Leaves bytes (without_blank (piece ∷ [])) r
Leaves-piece bytes piece r (clear, inl p) = record {
  every = λ more none.
      ap (λ xs. lines_of (xs ++ more)) p.0 ∙ ap lines_of (append_assoc piece (10 ∷ r.held) more) ∙ lines_of-ended piece (r.held ++ more) clear;
  by_feed = λ more going.
      ap (λ xs. ended_lines_of (xs ++ more)) p.0 ∙ ap ended_lines_of (append_assoc piece (10 ∷ r.held) more) ∙ ended_lines_of-ended piece (r.held ++ more) clear;
}
Leaves-piece bytes piece r (clear, inr p) = record {
  every = λ more none. rw (none p.2, p.1, append-nil bytes, p.0, lines_of-nil) (lines_of-last piece clear p.3 ∙ sym (append-nil _));
  by_feed = λ more going. absurd (both_ways r.ended going p.2);
}

pub not_ended : (b d : Bool) → (b ≡ true → d ≡ true) → d ≡ false → b ≡ false
not_ended b d stays going = ⊎_elim (λ e. absurd (both_ways d going (stays e))) (λ e. e) (cases_Bool b)

pub Leaves-more : {r s : LinesRead} {x y : Option (List ℕ)} (bytes piece : List ℕ) (lines later : List (List ℕ)) → Leaves bytes lines r → Takes r x piece s y → Leaves (r.held ++ piece) later s → Leaves (bytes ++ piece) (lines ++ later) s
Leaves-more {r} {s} bytes piece lines later p takes q = record {
  every = λ more none.
      ap lines_of (append_assoc bytes piece more)
      ∙ p.every (piece ++ more) (λ e. nil-append piece more (takes.none_after_end e) (none (takes.stays_ended e)))
      ∙ ap (λ xs. lines ++ lines_of xs) (sym (append_assoc r.held piece more))
      ∙ ap (λ xs. lines ++ xs) (q.every more none)
      ∙ sym (append_assoc lines later (lines_of (s.held ++ more)));
  by_feed = λ more going.
      ap ended_lines_of (append_assoc bytes piece more)
      ∙ p.by_feed (piece ++ more) (not_ended r.ended s.ended takes.stays_ended going)
      ∙ ap (λ xs. lines ++ ended_lines_of xs) (sym (append_assoc r.held piece more))
      ∙ ap (λ xs. lines ++ xs) (q.by_feed more going)
      ∙ sym (append_assoc lines later (ended_lines_of (s.held ++ more)));
}
