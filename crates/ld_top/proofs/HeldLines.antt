-- What the bytes that are held say of the lines of all bytes.
use Rattle.std.proofs.Common.{ℕ, List, [], ◌∷◌, ◌++◌, ◌≡◌, not, refl, sym, ◌∙◌, ap, inl, inr}
use Rattle.std.proofs.lemmas.Bool.{cases_Bool}
use Rattle.std.proofs.lemmas.List.Elements.{filter-append}
use Rattle.ld_lines.specs.Lines.{ended_lines_of, ended_pieces_of, is_feed, is_passed_over, lines_of, onto_ended, onto_first, pieces_of, without_blank}

onto_ended-more : (b : ℕ) (pieces rest : List (List ℕ)) → (after : List (List ℕ)) × (onto_ended b (pieces ++ rest) ≡ onto_ended b pieces ++ after)
onto_ended-more b [] rest = (onto_ended b rest, refl)
onto_ended-more b (piece ∷ pieces) rest = (rest, refl)

onto_first-more : (b : ℕ) (pieces rest : List (List ℕ)) → (after : List (List ℕ)) × (onto_first b (pieces ++ rest) ≡ onto_ended b pieces ++ after)
onto_first-more b [] rest = (onto_first b rest, refl)
onto_first-more b (piece ∷ pieces) rest = (rest, refl)

-- The pieces that a line feed ends come first, whatever comes behind them.
ended_pieces-more : (bytes more : List ℕ) → (rest : List (List ℕ)) × (ended_pieces_of (bytes ++ more) ≡ ended_pieces_of bytes ++ rest)
unfolding ended_pieces_of
ended_pieces-more [] more = (ended_pieces_of more, refl)
ended_pieces-more (b ∷ bytes) more =
    let later = ended_pieces-more bytes more in
    elim (cases_Bool (is_feed b)) [
      | inl feed ↦ (later.0, rw (feed, later.1) refl)
      | inr other ↦ let put = onto_ended-more b (ended_pieces_of bytes) later.0 in (put.0, rw (other, later.1) put.1)
    ]

pieces-more : (bytes more : List ℕ) → (rest : List (List ℕ)) × (pieces_of (bytes ++ more) ≡ ended_pieces_of bytes ++ rest)
unfolding pieces_of ended_pieces_of
pieces-more [] more = (pieces_of more, refl)
pieces-more (b ∷ bytes) more =
    let later = pieces-more bytes more in
    elim (cases_Bool (is_feed b)) [
      | inl feed ↦ (later.0, rw (feed, later.1) refl)
      | inr other ↦ let put = onto_first-more b (ended_pieces_of bytes) later.0 in (put.0, rw (other, later.1) put.1)
    ]

front_empty : (xs ys : List (List ℕ)) → xs ++ ys ≡ [] → xs ≡ []
front_empty [] ys e = refl
front_empty (x ∷ xs) ys e = absurd (cc e)

none_of_first : (pieces rest all : List (List ℕ)) → all ≡ pieces ++ rest → without_blank all ≡ [] → without_blank pieces ≡ []
unfolding without_blank
none_of_first pieces rest all is none =
    front_empty (without_blank pieces) (without_blank rest)
    (sym (ap without_blank is ∙ filter-append (λ piece. not (is_passed_over piece)) pieces rest) ∙ none)

-- Where no line is ended in all bytes, none is in those that are held, ..
pub none_ended : (held piece : List ℕ) → ended_lines_of (held ++ piece) ≡ [] → ended_lines_of held ≡ []
none_ended held piece none =
    let more = ended_pieces-more held piece in none_of_first (ended_pieces_of held) more.0 (ended_pieces_of (held ++ piece)) more.1 none

-- .. and so where there is no line at all.
pub none_at_all : (held piece : List ℕ) → lines_of (held ++ piece) ≡ [] → ended_lines_of held ≡ []
none_at_all held piece none =
    let more = pieces-more held piece in none_of_first (ended_pieces_of held) more.0 (pieces_of (held ++ piece)) more.1 none
