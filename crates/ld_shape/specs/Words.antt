-- Texts that are one of some words. (docs/FORMATS.md, "Documents")
use Rattle.std.specs.Prelude.{◌≡◌, ℕ, List, [], ◌∷◌, Option, Some, None, Bool, true, false, if◌then◌else◌}
use Rattle.std.specs.List.{list_all, list_any}
use Rattle.std.specs.Str.{bytes_eq}
use Rattle.serde_json.specs.Data.{Data}
use Rattle.serde_json.specs.Find.{as_str}
use Rattle.ld_base.specs.Maybe.{◌>>=◌}
use Rattle.ld_json.specs.declared.code.Code.{Code}
use Rattle.ld_json.specs.declared.code.Code.TheVariants.{WrongShape, NotInProfile}
use Rattle.ld_shape.specs.Keeping.{Keeps}
use Rattle.ld_shape.specs.Shapes.{Shape, plain, coded_leaf}
use Rattle.ld_value.proofs.Choices.{and_left, and_right}

-- What the text stands for: the second of the first pair whose first it is.
abbrev pub choice_among : {A : Type 0} → List (List ℕ × A) → List ℕ → Option A
choice_among [] text = None
choice_among (choice ∷ choices) text = if bytes_eq text choice.0 then Some choice.1 else choice_among choices
    text

-- One of the words, as what it stands for.
abbrev pub word_among : {A : Type 0} → List (List ℕ × A) → Data → Option A
word_among choices tree = as_str tree >>= choice_among choices

-- One of the words, which stand for all values of the type.
abbrev pub one_of : {A : Type 0} → List (List ℕ × A) → Shape A
one_of words = plain (word_among words)

-- ---- words of which some are left out of this engine

-- What each word stands for passes the test.
abbrev pub words_have : {A : Type 0} → (A → Bool) → List (List ℕ × A) → Bool
words_have form words = list_all (λ word. form word.1) words

-- A word that is left out is not in the profile; another text has the wrong shape.
abbrev pub word_fault : List (List ℕ) → Option (List ℕ) → Code
word_fault outside None = WrongShape
word_fault outside (Some text) = if list_any (bytes_eq text) outside then NotInProfile else WrongShape

either_word : {A : Type 0} (form : A → Bool) (test : Bool) (x : A) (other : Option A) → form x ≡ true
    → Keeps form other → Keeps form (if test then Some x else other)
either_word form true x other is are = is
either_word form false x other is are = are

choice_keeps : {A : Type 0} (form : A → Bool) (words : List (List ℕ × A)) → words_have form words ≡ true
    → (text : List ℕ) → Keeps form (choice_among words text)
choice_keeps form [] have text = tt
choice_keeps form (word ∷ words) have text =
    either_word form (bytes_eq text word.0) word.1 (choice_among words text)
    (and_left (form word.1) (words_have form words) have)
    (choice_keeps form words (and_right (form word.1) (words_have form words) have) text)

-- What a text stands for among the words has the form that all of them have.
pub word_keeps : {A : Type 0} (form : A → Bool) (words : List (List ℕ × A)) → words_have form words ≡ true
    → (text : Option (List ℕ)) → Keeps form (text >>= choice_among words)
word_keeps form words have None = tt
word_keeps form words have (Some text) = choice_keeps form words have text

-- One of the words, which stand for the values of this form; the texts outside are left out of this engine.
abbrev pub one_of_but : {A : Type 0} (words : List (List ℕ × A)) (form : A → Bool)
    → words_have form words ≡ true → List (List ℕ) → Shape A
one_of_but words form have outside =
    coded_leaf (λ tree. word_fault outside (as_str tree)) (word_among words) form
    (λ tree. word_keeps form words have (as_str tree))
