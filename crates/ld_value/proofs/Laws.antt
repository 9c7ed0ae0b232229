-- The values of a datatype are those that some text has, and each is read from its own text.
use Rattle.std.proofs.Common.{◌≡◌, ℕ, suc, List, ◌+◌, ◌<◌, ◌^◌, true, false, cond, inl, inr, refl, sym, arith, codes, ℤ, pos, negsuc, neg_ℤ, ◌≤ℤ◌, Option, Some, None, IsTrue}
use Rattle.std.specs.Prelude.{int_le}
use Rattle.std.specs.Option.{option_map, option_and_then, IfSome}
use Rattle.std.specs.Str.Parse.{starts_with_minus}
use Rattle.std.specs.Fmt.{decimal, signed_decimal}
use Rattle.std.proofs.lemmas.Bool.Decides.{nat_tests}
use Rattle.std.proofs.lemmas.Fmt.{decimal_nonempty}
use Rattle.jiff_core.proofs.SignedLemmas.{signed_arith}
use Rattle.ld_value.specs.declared.kind.Kind.{Kind}
use Rattle.ld_value.specs.declared.kind.Kind.TheVariants.{String, Text, Uri, Boolean, Integer, Datetime, Duration}
use Rattle.ld_value.specs.Calendar.{moment_of, is_moment, IsMoment}
use Rattle.ld_value.specs.Datum.{Datum, text_datum, truth_datum, number_datum, moment_datum, span_datum}
use Rattle.ld_value.specs.Duration.{duration_of}
use Rattle.ld_value.specs.Numeral.{numeral}
use Rattle.ld_value.specs.Values.{value_of, text_of, is_value, is_text, is_uri, is_whole, truth_of, signed_numeral, integer_of, HasText}
use Rattle.ld_value.proofs.Choices.{both, and_left, and_right, bool_cases, some_when, le_from, le_test}
use Rattle.ld_value.proofs.Numerals.{digit_in, is_numeral-decimal, digits_value_decimal, all_digits-decimal}
use Rattle.ld_value.proofs.Moments.{moment_of-text_of_moment, IsMoment-moment_of}
use Rattle.ld_value.proofs.Durations.{duration_of-span_text, span-duration_of}

-- ---- what a text can have

le_test_z : (a b : ℤ) → a ≤ℤ b → int_le a b ≡ true
le_test_z a b h =
    elim (bool_cases (int_le a b)) [
      | inl goes ↦ goes
      | inr stops ↦ absurd (omega (arith, signed_arith, stops))
    ]

is_moment-from : (z : ℤ) → IsMoment z → is_moment z ≡ true
is_moment-from z h = both _ _ (le_test_z _ _ h.0) (le_test_z _ _ h.1)

pub IsMoment-from : (z : ℤ) → is_moment z ≡ true → IsMoment z
IsMoment-from z h =
    let low = and_left (int_le (neg_ℤ (pos 62135596800)) z) _ h in
    let high = and_right (int_le (neg_ℤ (pos 62135596800)) z) _ h in
    (omega (arith, signed_arith, low), omega (arith, signed_arith, high))

integer-whole : (o : Option ℤ) (z : ℤ) → option_and_then (λ n. cond (is_whole n) (Some n) None) o ≡ Some z → is_whole z ≡ true
integer-whole None z h = absurd (cc)
integer-whole (Some n) z h = let found = some_when (is_whole n) n z h in rw (← found.1) found.0

mapped : {X : Type 0} (f : X → Datum) (o : Option X) (d : Datum) → option_map f o ≡ Some d → (x : X) × (o ≡ Some x) × (f x ≡ d)
mapped f None d h = absurd (cc)
mapped f (Some x) d h = (x, refl, cc)

-- a value that a text has is one of the datatype
pub is_value-value_of : (kind : Kind) (text : List ℕ) (d : Datum) → value_of kind text ≡ Some d → is_value kind d ≡ true
unfolding value_of integer_of
is_value-value_of String text d h = let is = some_when (is_text text) (text_datum text) d h in rw (← is.1) is.0
is_value-value_of Text text d h = let is = some_when (is_text text) (text_datum text) d h in rw (← is.1) is.0
is_value-value_of Uri text d h = let is = some_when (is_uri text) (text_datum text) d h in rw (← is.1) is.0
is_value-value_of Boolean text d h = let is = mapped truth_datum (truth_of text) d h in rw (← is.2) refl
is_value-value_of Integer text d h = let is = mapped number_datum (integer_of text) d h in rw (← is.2) (integer-whole (signed_numeral text) is.0 is.1)
is_value-value_of Datetime text d h = let is = mapped moment_datum (moment_of text) d h in rw (← is.2) (is_moment-from is.0 (IsMoment-moment_of text is.0 is.1))
is_value-value_of Duration text d h = let is = mapped span_datum (duration_of text) d h in rw (← is.2) (le_test _ _ (span-duration_of text is.0 is.1))

-- ---- a value read from its own text

numeral-decimal : (n : ℕ) → n < 2 ^ 63 + 1 → numeral 19 (decimal n) ≡ Some n
unfolding numeral
numeral-decimal n h = rw (is_numeral-decimal 19 n (omega arith) (omega arith) (omega arith), digits_value_decimal n (omega arith)) refl

no_minus : (n : ℕ) → n < 2 ^ 64 → starts_with_minus (decimal n) ≡ false
no_minus n h = let first = digit_in (decimal n) 0 (all_digits-decimal n h) (decimal_nonempty n h) in grind (arith, nat_tests)

integer_of-signed_decimal : (z : ℤ) → is_whole z ≡ true → integer_of (signed_decimal z) ≡ Some z
unfolding integer_of signed_numeral
integer_of-signed_decimal (pos n) h =
    let high = and_right (int_le (neg_ℤ (pos (2 ^ 63))) (pos n)) _ h in
    let small : n < 2 ^ 63 = omega (arith, signed_arith, high) in
    rw (no_minus n (omega arith), numeral-decimal n (omega arith)) (rw h refl)
integer_of-signed_decimal (negsuc n) h =
    let low = and_left (int_le (neg_ℤ (pos (2 ^ 63))) (negsuc n)) _ h in
    let small : suc n < 2 ^ 63 + 1 = omega (arith, signed_arith, low) in
    rw (numeral-decimal (suc n) small) (rw h refl)

true_text : value_of Boolean (codes "true") ≡ Some (truth_datum true)
unfolding value_of truth_of
true_text = refl

false_text : value_of Boolean (codes "false") ≡ Some (truth_datum false)
unfolding value_of truth_of
false_text = refl

pub value_of-text_of : (kind : Kind) (d : Datum) → is_value kind d ≡ true → value_of kind (text_of d) ≡ Some d
unfolding value_of text_of
value_of-text_of String (text_datum x) h = rw h refl
value_of-text_of String (truth_datum x) h = absurd (cc)
value_of-text_of String (number_datum x) h = absurd (cc)
value_of-text_of String (moment_datum x) h = absurd (cc)
value_of-text_of String (span_datum x) h = absurd (cc)
value_of-text_of Text (text_datum x) h = rw h refl
value_of-text_of Text (truth_datum x) h = absurd (cc)
value_of-text_of Text (number_datum x) h = absurd (cc)
value_of-text_of Text (moment_datum x) h = absurd (cc)
value_of-text_of Text (span_datum x) h = absurd (cc)
value_of-text_of Uri (text_datum x) h = rw h refl
value_of-text_of Uri (truth_datum x) h = absurd (cc)
value_of-text_of Uri (number_datum x) h = absurd (cc)
value_of-text_of Uri (moment_datum x) h = absurd (cc)
value_of-text_of Uri (span_datum x) h = absurd (cc)
value_of-text_of Boolean (text_datum x) h = absurd (cc)
value_of-text_of Boolean (truth_datum true) h = true_text
value_of-text_of Boolean (truth_datum false) h = false_text
value_of-text_of Boolean (number_datum x) h = absurd (cc)
value_of-text_of Boolean (moment_datum x) h = absurd (cc)
value_of-text_of Boolean (span_datum x) h = absurd (cc)
value_of-text_of Integer (text_datum x) h = absurd (cc)
value_of-text_of Integer (truth_datum x) h = absurd (cc)
value_of-text_of Integer (number_datum x) h = rw (integer_of-signed_decimal x h) refl
value_of-text_of Integer (moment_datum x) h = absurd (cc)
value_of-text_of Integer (span_datum x) h = absurd (cc)
value_of-text_of Datetime (text_datum x) h = absurd (cc)
value_of-text_of Datetime (truth_datum x) h = absurd (cc)
value_of-text_of Datetime (number_datum x) h = absurd (cc)
value_of-text_of Datetime (moment_datum x) h = rw (moment_of-text_of_moment x (IsMoment-from x h)) refl
value_of-text_of Datetime (span_datum x) h = absurd (cc)
value_of-text_of Duration (text_datum x) h = absurd (cc)
value_of-text_of Duration (truth_datum x) h = absurd (cc)
value_of-text_of Duration (number_datum x) h = absurd (cc)
value_of-text_of Duration (moment_datum x) h = absurd (cc)
value_of-text_of Duration (span_datum x) h = rw (duration_of-span_text x (le_from _ _ h)) refl

-- ---- in clauses

-- a value of a datatype has a text
pub HasText-is_value : (kind : Kind) (d : Datum) → is_value kind d ≡ true → HasText d
HasText-is_value kind (text_datum x) h = tt
HasText-is_value kind (truth_datum x) h = tt
HasText-is_value kind (number_datum x) h = tt
HasText-is_value kind (span_datum x) h = tt
HasText-is_value Datetime (moment_datum x) h = IsMoment-from x h
HasText-is_value String (moment_datum x) h = absurd (cc)
HasText-is_value Text (moment_datum x) h = absurd (cc)
HasText-is_value Uri (moment_datum x) h = absurd (cc)
HasText-is_value Boolean (moment_datum x) h = absurd (cc)
HasText-is_value Integer (moment_datum x) h = absurd (cc)
HasText-is_value Duration (moment_datum x) h = absurd (cc)

pub printed_back : (kind : Kind) (text : List ℕ) (d : Datum) → value_of kind text ≡ Some d → value_of kind (text_of d) ≡ Some d
printed_back kind text d h = value_of-text_of kind d (is_value-value_of kind text d h)

-- of a value that was read
pub is_value-read : {X : Type 0} (mean : X → Datum) (kind : Kind) (text : List ℕ) (r : Option X) → option_map mean r ≡ value_of kind text → IfSome r (λ v. IsTrue (is_value kind (mean v)))
is_value-read mean kind text None h = tt
is_value-read mean kind text (Some v) h = is_value-value_of kind text (mean v) (sym h)
