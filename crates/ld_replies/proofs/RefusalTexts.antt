-- The text of a refusal in the two parts in which it is written.
use Rattle.std.proofs.Common.{◌≡◌, ℕ, List, [], ◌∷◌, ◌++◌, unwrap_or, codes, decimal, sym, ap, ◌∙◌, refl}
use Rattle.std.proofs.lemmas.List.{append-nil}
use Rattle.std.proofs.lemmas.List.Concat.{flat_map-append}
use Rattle.ld_lines.specs.Refusals.{word_of_refusal}
use Rattle.ld_tree.specs.Lines.{spaced}
use Rattle.ld_replies.specs.Printed.{words_behind}
use Rattle.ld_admission.specs.Refusals.{Refusal, details_of, refusal_number, NoMemory}
use Rattle.ld_replies.specs.Replies.{refusal_text}
use Rattle.std.specs.Fmt.{digits}

pub spaced_behind : (word : List ℕ) (words : List (List ℕ)) → spaced (word ∷ words) ≡ word ++ words_behind words
spaced_behind word [] = sym (append-nil word)
spaced_behind word (next ∷ words) = ap (λ text. word ++ 32 ∷ text) (spaced_behind next words)

pub refusal_text_is : (refusal : Refusal) → refusal_text refusal
    ≡ (codes "no" ++ words_behind (decimal (refusal_number refusal) ∷ unwrap_or (word_of_refusal (refusal_number refusal)) [] ∷ []))
    ++ words_behind (details_of refusal)
refusal_text_is refusal =
    let number = decimal (refusal_number refusal) in
    let word = unwrap_or (word_of_refusal (refusal_number refusal)) [] in
    spaced_behind (codes "no") (number ∷ word ∷ details_of refusal)
    ∙ ap (λ text. codes "no" ++ text) (flat_map-append (λ one. 32 ∷ one) (number ∷ word ∷ []) (details_of refusal))

pub no_memory_text : codes "no 99 no-memory\n" ≡ refusal_text NoMemory ++ 10 ∷ []
unfolding digits
no_memory_text = refl
