-- A number that takes the place of four digits in a text.
use Rattle.std.proofs.Common.{◌≡◌, ◌+◌, ℕ, suc, List, [], ◌∷◌, ◌++◌, length, take, drop, codes, ap, refl, ◌∙◌, arith, append_assoc}
use Rattle.std.proofs.lemmas.List.{length-append}
use Rattle.std.specs.List.{replace_range, slice_index}
use lib.Seq.{get_or-append-add}
use Rattle.std.specs.String.Boundary.{IsSplitPoint}
use Rattle.ld_tree.specs.Lines.{lines_text}

-- The text with the place kept.
abbrev pub placed : List ℕ → List (List ℕ) → List ℕ
placed front lines = front ++ (codes "0000" ++ lines_text lines)

taken_front : (front rest : List ℕ) → take (length front) (front ++ rest) ≡ front
taken_front [] rest = refl
taken_front (x ∷ front) rest = ap (λ l. x ∷ l) (taken_front front rest)

dropped_place : (front rest : List ℕ) → drop (length front + 4) (front ++ (codes "0000" ++ rest)) ≡ rest
dropped_place [] rest = refl
dropped_place (x ∷ front) rest =
    let on : suc (length front) + 4 ≡ suc (length front + 4) = omega arith in
    ap (λ n. drop n (x ∷ (front ++ (codes "0000" ++ rest)))) on ∙ dropped_place front rest

place_ends : (front : List ℕ) (lines : List (List ℕ)) → IsSplitPoint (placed front lines) (length front + 4)
place_ends front [] =
    let long = length-append front (codes "0000" ++ []) in
    (omega arith, λ _ below _. absurd (omega arith))
place_ends front (line ∷ lines) =
    let long = length-append front (codes "0000" ++ lines_text (line ∷ lines)) in
    let feed : slice_index (placed front (line ∷ lines)) (length front + 4) ≡ 10 = get_or-append-add front (codes "0000" ++ lines_text (line ∷ lines)) 4 0 in
    (omega arith, λ _ _ high. absurd (omega arith))

number_placed : (front number : List ℕ) (lines : List (List ℕ))
    → replace_range (placed front lines) (length front) (length front + 4) number ≡ front ++ (number ++ lines_text lines)
number_placed front number lines =
    (rw (taken_front front (codes "0000" ++ lines_text lines), dropped_place front (lines_text lines)) refl)
    ∙ append_assoc front number (lines_text lines)

-- The place ends before a line feed, or at the text's end.
pub place_ends_at : (text front : List ℕ) (lines : List (List ℕ)) (at : ℕ) → text ≡ placed front lines → at ≡ length front → IsSplitPoint text (at + 4)
place_ends_at text front lines at is place = rw (is, place) (place_ends front lines)

-- The number stands there afterwards.
pub number_placed_at : (text front number : List ℕ) (lines : List (List ℕ)) (at : ℕ) → text ≡ placed front lines → at ≡ length front
    → replace_range text at (at + 4) number ≡ front ++ (number ++ lines_text lines)
number_placed_at text front number lines at is place = rw (is, place) (number_placed front number lines)
