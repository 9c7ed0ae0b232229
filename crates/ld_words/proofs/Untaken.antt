-- Words that are not taken have no form.
use Rattle.std.proofs.Common.{◌≡◌, ℕ, Bool, true, false, List, [], ◌∷◌, length, None, option_map, refl, ap, codes, bytes_eq, if◌then◌else◌}
use Rattle.ld_base.specs.Maybe.{provided}
use Rattle.ld_words.specs.Forms.{replay_form, check_form, canon_form, rank_form, keep_form, gen_words, is_up_to, only_word, some_words, form_of_plain}
use Rattle.ld_words.specs.Verbs.{are_taken}

no_some : (words : List (List ℕ)) → is_up_to 64 (length words) ≡ false → some_words words ≡ None
no_some words is = ap (λ t. provided t words) is

no_only : (words : List (List ℕ)) → is_up_to 1 (length words) ≡ false → only_word words ≡ None
no_only [] is = refl
no_only (word ∷ []) is = cc
no_only (word ∷ (next ∷ words)) is = refl

no_gen : (words : List (List ℕ)) → is_up_to 2 (length words) ≡ false → gen_words words ≡ None
no_gen [] is = refl
no_gen (word ∷ []) is = refl
no_gen (word ∷ (next ∷ [])) is = cc
no_gen (word ∷ (next ∷ (third ∷ words))) is = refl

by_verb : (rest : List (List ℕ)) (a b c d e f : Bool)
    → (if a then is_up_to 64 (length rest) else (if b then is_up_to 1 (length rest)
    else (if c then is_up_to 1 (length rest) else (if d then is_up_to 1 (length rest)
    else (if e then is_up_to 64 (length rest) else (if f then is_up_to 2 (length rest) else false)))))) ≡ false
    → (if a then option_map replay_form (some_words rest)
    else (if b then option_map check_form (only_word rest) else (if c then option_map canon_form (only_word rest)
    else (if d then option_map rank_form (only_word rest)
    else (if e then option_map keep_form (some_words rest)
    else (if f then gen_words rest else None)))))) ≡ None
by_verb rest true b c d e f is = ap (option_map replay_form) (no_some rest is)
by_verb rest false true c d e f is = ap (option_map check_form) (no_only rest is)
by_verb rest false false true d e f is = ap (option_map canon_form) (no_only rest is)
by_verb rest false false false true e f is = ap (option_map rank_form) (no_only rest is)
by_verb rest false false false false true f is = ap (option_map keep_form) (no_some rest is)
by_verb rest false false false false false true is = no_gen rest is
by_verb rest false false false false false false is = refl

pub untaken_form : (words : List (List ℕ)) → are_taken words ≡ false → form_of_plain words ≡ None
unfolding are_taken
untaken_form [] is = refl
untaken_form (verb ∷ rest) is =
    by_verb rest (bytes_eq verb (codes "replay")) (bytes_eq verb (codes "check")) (bytes_eq verb (codes "canon"))
    (bytes_eq verb (codes "rank")) (bytes_eq verb (codes "keep")) (bytes_eq verb (codes "gen")) is
