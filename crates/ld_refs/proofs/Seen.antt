-- The set of the texts that were seen.
use Rattle.std.proofs.Common.{◌≡◌, ℕ, ◌+◌, ◌<◌, List, [], ◌∷◌, ◌++◌, length, take, get_or, Bool, true, false, ◌||◌, cond, Bor, Some, slice_get, refl, sym, ap, ◌∙◌, append-nil, arith}
use Rattle.std.proofs.lemmas.Cmp.{nat_list_eq_equiv}
use Rattle.std.proofs.lemmas.Grind.{flat_map-append}
use Rattle.std.proofs.lemmas.List.{take_more}
use Rattle.std.proofs.lemmas.List.Folds.{list_any-append}
use Rattle.std.proofs.lemmas.Option.{slice_get-get_or}
use Rattle.std.specs.HashSet.{HashSet, Updates}
use Rattle.std.specs.List.{list_any}
use Rattle.std.specs.Str.{bytes_eq}
use Rattle.ld_model.specs.Counting.{each_numbered}
use Rattle.ld_walk.specs.Parts.{Part}
use Rattle.ld_walk.specs.Places.{At}
use Rattle.ld_refs.specs.declared.checks.repeats.Texts.{Texts}
use Rattle.ld_refs.specs.Repeats.{repeated_target, text_in, texts_in}
use Rattle.ld_refs.specs.SeenTexts.{HasSeen}

pub bytes_eq-turned : (x y : List ℕ) → bytes_eq x y ≡ bytes_eq y x
bytes_eq-turned x y = nat_list_eq_equiv.symm x y

added_last : (added there : Bool) → cond added true there ≡ (there || (added || false))
added_last true true = refl
added_last true false = refl
added_last false true = refl
added_last false false = refl

-- The set after one more text.
pub seen_added : {S : Type 0} (old new : HashSet (Bor (List ℕ)) S) (text : Bor (List ℕ)) (texts : List (List ℕ)) → HasSeen old texts → Updates (λ x y. bytes_eq x.now y.now) old new text true → HasSeen new (texts ++ text.now ∷ [])
seen_added old new text texts seen updates q =
    updates.0 (record { ref_ptr = (0, 0); now = q })
    ∙ rw (bytes_eq-turned text.now q, seen q, list_any-append (bytes_eq q) texts (text.now ∷ [])) (added_last (bytes_eq q text.now) (list_any (bytes_eq q) texts))

-- One text more of a list.
pub one_more : (texts : List (List ℕ)) (i : ℕ) (d : List ℕ) → i < length texts → take (i + 1) texts ≡ take i texts ++ get_or texts i d ∷ []
one_more texts i d within = take_more texts i d within

-- The texts of one part more.
pub texts_more : (texts : Texts) (parts : List Part) (i : ℕ) (part : Part) → i < length parts → slice_get parts i ≡ Some part → texts_in texts (take (i + 1) parts) ≡ texts_in texts (take i parts) ++ text_in texts part.what
texts_more texts parts i part within here =
    let same : Some (get_or parts i part) ≡ Some part = sym (slice_get-get_or parts i part within) ∙ here in
    let one : get_or parts i part ≡ part = cc in
    rw (take_more parts i part within, one, flat_map-append (λ p. text_in texts p.what) (take i parts) (part ∷ [])) (ap (λ rest. texts_in texts (take i parts) ++ rest) (append-nil (text_in texts part.what)))

-- In a list of fewer than two none is equal to an earlier one.
pub too_few : (at : At) (ids : List (List ℕ)) → length ids < 2 → each_numbered (repeated_target at ids) ids ≡ []
too_few at [] few = refl
too_few at (id ∷ []) few = refl
too_few at (id ∷ other ∷ ids) few = absurd (omega (arith, few))
