-- Single values and their trees.
use Rattle.std.specs.Prelude.{◌≡◌, ℕ, List, Some, Bool, true}
use Rattle.std.proofs.Common.{refl, ap}
use Rattle.serde_json.specs.Data.{boolean, string, number, unsigned}
use Rattle.serde_json.specs.Find.{as_str}
use Rattle.ld_base.specs.Identifier.{has_identifier_form}
use Rattle.ld_base.specs.Maybe.{provided}
use Rattle.ld_shape.specs.Forms.{is_between, has_length, is_address_of, flag as flag_shape, true_of, true_flag as true_shape, text_within, text as text_shape, identifier_of, identifier as identifier_shape, address_of, address as address_shape, number_within, number as number_shape}
use Rattle.ld_shape.specs.Shapes.{plain}
use Rattle.ld_shape.specs.Spans.{is_in_range, span_of, seconds as seconds_shape}
use Rattle.ld_shape.specs.Words.{choice_among, words_have, one_of as one_of_shape, one_of_but as one_of_but_shape}
use Rattle.ld_value.proofs.Choices.{le_from}
use Rattle.ld_value.proofs.Durations.{duration_of-span_text}
use Rattle.ld_value.specs.Duration.{span_text}
use Rattle.ld_prints.specs.Printing.{Printed}

-- True or false.
abbrev pub flag : Printed Bool
flag = record {
  shape = flag_shape;
  print = boolean;
  whole = λ _. refl;
  back = λ x is. record { reads = λ file place. refl };
  canonical = λ _ _. tt;
}

-- A flag that is true.
pub true_back : true_of (boolean true) ≡ Some tt
unfolding true_of
true_back = refl

-- The same.
abbrev pub true_flag : Printed (Unit {0})
true_flag = record {
  shape = true_shape;
  print = λ _. boolean true;
  whole = λ _. refl;
  back = λ x is. record { reads = λ file place. true_back };
  canonical = λ _ _. tt;
}

-- A text of this many bytes is read from itself.
pub text_back : (least most : ℕ) (text : List ℕ) → has_length least most text ≡ true
    → text_within least most (string text) ≡ Some text
unfolding text_within
text_back least most text is = ap (λ test. provided test text) is

-- A text of at least and at most this many bytes.
abbrev pub text : ℕ → ℕ → Printed (List ℕ)
text least most = record {
  shape = text_shape least most;
  print = string;
  whole = λ _. refl;
  back = λ x is. record { reads = λ file place. text_back least most x is };
  canonical = λ _ _. tt;
}

-- A title or a subject: 1 to 256 bytes.
abbrev pub title : Printed (List ℕ)
title = text 1 256

-- An identifier is read from itself.
pub identifier_back : (text : List ℕ) → has_identifier_form text ≡ true
    → identifier_of (string text) ≡ Some text
unfolding identifier_of
identifier_back text is = ap (λ test. provided test text) is

-- An identifier or a reference.
abbrev pub identifier : Printed (List ℕ)
identifier = record {
  shape = identifier_shape;
  print = string;
  whole = λ _. refl;
  back = λ x is. record { reads = λ file place. identifier_back x is };
  canonical = λ _ _. tt;
}

-- Visible characters of ASCII are read from themselves.
pub address_back : (most : ℕ) (text : List ℕ) → is_address_of most text ≡ true
    → address_of most (string text) ≡ Some text
unfolding address_of
address_back most text is = ap (λ test. provided test text) is

-- 1 to this many visible characters of ASCII.
abbrev pub address : ℕ → Printed (List ℕ)
address most = record {
  shape = address_shape most;
  print = string;
  whole = λ _. refl;
  back = λ x is. record { reads = λ file place. address_back most x is };
  canonical = λ _ _. tt;
}

-- An address: 1 to 1,024 visible characters of ASCII.
abbrev pub href : Printed (List ℕ)
href = address 1024

-- The name that properties of several units share: 1 to 4,096 visible characters of ASCII.
abbrev pub uri : Printed (List ℕ)
uri = address 4096

-- A number between the bounds is read from itself.
pub number_back : (least most n : ℕ) → is_between least most n ≡ true
    → number_within least most (number (unsigned n)) ≡ Some n
unfolding number_within
number_back least most n is = ap (λ test. provided test n) is

-- A whole number from one bound to the other.
abbrev pub number_between : ℕ → ℕ → Printed ℕ
number_between least most = record {
  shape = number_shape least most;
  print = λ n. number (unsigned n);
  whole = λ _. refl;
  back = λ x is. record { reads = λ file place. number_back least most x is };
  canonical = λ _ _. tt;
}

-- A span in range is read from its text.
pub span_back : (n : ℕ) → is_in_range n ≡ true → span_of (string (span_text n)) ≡ Some n
unfolding span_of
span_back n is = duration_of-span_text n (le_from n 999999999999 is)

-- The seconds of a duration.
abbrev pub seconds : Printed ℕ
seconds = record {
  shape = seconds_shape;
  print = λ n. string (span_text n);
  whole = λ _. refl;
  back = λ x is. record { reads = λ file place. span_back x is };
  canonical = λ _ _. tt;
}

-- A text of any length.
abbrev pub any_text : Printed (List ℕ)
any_text = record {
  shape = plain as_str;
  print = string;
  whole = λ _. refl;
  back = λ x is. record { reads = λ file place. refl };
  canonical = λ _ _. tt;
}

-- ---- words

-- A word that stands for each value.
abbrev pub IsWordOf : {A : Type 0} → List (List ℕ × A) → (A → Bool) → (A → List ℕ) → Type 0
IsWordOf {A} words form word = (x : A) → form x ≡ true → choice_among words (word x) ≡ Some x

-- One of the words, which stand for all values of the type.
abbrev pub one_of : {A : Type 0} (words : List (List ℕ × A)) (word : A → List ℕ)
    → ((x : A) → choice_among words (word x) ≡ Some x) → Printed A
one_of words word law = record {
  shape = one_of_shape words;
  print = λ x. string (word x);
  whole = λ _. refl;
  back = λ x is. record { reads = λ file place. law x };
  canonical = λ _ _. tt;
}

-- One of the words, which stand for the values of this form; the texts outside are left out of this engine.
abbrev pub one_of_but : {A : Type 0} (words : List (List ℕ × A)) (form : A → Bool)
    (have : words_have form words ≡ true) (outside : List (List ℕ)) (word : A → List ℕ)
    → ((x : A) → form x ≡ true → choice_among words (word x) ≡ Some x) → Printed A
one_of_but words form have outside word law = record {
  shape = one_of_but_shape words form have outside;
  print = λ x. string (word x);
  whole = λ _. refl;
  back = λ x is. record { reads = λ file place. law x is };
  canonical = λ _ _. tt;
}
