-- Where the first line feed stands.
use Rattle.std.proofs.Common.{◌≡◌, ℕ, ◌+◌, ◌<◌, ◌≤◌, List, ◌∷◌, ◌++◌, length, take, drop, get_or, Some, None, sym, ap, ◌∙◌, arith, refl, length-drop, take-add}
use Rattle.std.proofs.lemmas.Bool.{false_from_ne_true, eqb-true}
use Rattle.std.proofs.lemmas.List.{get_or_default, take-append-drop, get_or-drop, get_or-take, drop_more, take_all, length-take-le}
use Rattle.std.proofs.lemmas.List.Folds.{list_any-append, list_any_none}
use Rattle.memchr.specs.Find.{IsFirstByte, is_byte, Nowhere, Passes}
use Rattle.ld_lines.specs.Lines.{HasNoFeed, is_feed}
use Rattle.ld_lines.specs.Cutting.{FeedAt}

pub HasNoFeed-append : (xs ys : List ℕ) → HasNoFeed xs → HasNoFeed ys → HasNoFeed (xs ++ ys)
HasNoFeed-append xs ys h k = list_any-append is_feed xs ys ∙ (rw (h, k) refl)

none_before : (bytes : List ℕ) (k : ℕ) → k ≤ length bytes → Nowhere (Passes (is_byte 10) bytes) 0 k → HasNoFeed (take k bytes)
none_before bytes k h none =
    list_any_none is_feed (take k bytes) (λ j d below.
    let low : j < k = omega (arith, length-take-le k bytes h) in
    let same : get_or (take k bytes) j d ≡ get_or bytes j 0 = get_or-take k bytes j d low ∙ get_or_default bytes j d 0 (omega arith) in
    rw same (false_from_ne_true _ (none j (omega arith) low)))

parts_at : (bytes : List ℕ) (m : ℕ) → m < length bytes → get_or bytes m 0 ≡ 10 → bytes ≡ take m bytes ++ 10 ∷ drop (m + 1) bytes
parts_at bytes m h is =
    sym (take-append-drop m bytes) ∙ ap (λ ys. take m bytes ++ ys) (drop_more bytes m 0 h ∙ ap (λ b. b ∷ drop (m + 1) bytes) is)

-- what a search behind the bytes that were seen found
pub FeedAt-none : (bytes : List ℕ) (seen : ℕ) → HasNoFeed (take seen bytes) → IsFirstByte (is_byte 10) (drop seen bytes) None → HasNoFeed bytes
FeedAt-none bytes seen clear none =
    let rest = drop seen bytes in
    let later : HasNoFeed rest = rw (take_all (length rest) rest (omega arith)) at (none_before rest (length rest) (omega arith) none) in
    rw (take-append-drop seen bytes) at (HasNoFeed-append (take seen bytes) rest clear later)

pub FeedAt-some : (bytes : List ℕ) (seen k : ℕ) → HasNoFeed (take seen bytes) → seen ≤ length bytes → IsFirstByte (is_byte 10) (drop seen bytes) (Some k) → FeedAt bytes (Some (seen + k))
FeedAt-some bytes seen k clear h (found, is) =
    let rest = drop seen bytes in
    let below : k < length rest = found.high in
    let within : seen + k < length bytes = omega (arith, length-drop seen bytes) in
    let later : HasNoFeed (take k rest) = none_before rest k (omega arith) found.before in
    let here : get_or bytes (seen + k) 0 ≡ 10 = sym (get_or-drop seen bytes k 0) ∙ eqb-true _ _ is in (
      within,
      rw take-add (HasNoFeed-append (take seen bytes) (take k rest) clear later),
      parts_at bytes (seen + k) within here,
    )
