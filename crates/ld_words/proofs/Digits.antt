-- Digits that are too large a number for a machine's word of 32 bits.
use Rattle.std.proofs.Common.{◌≡◌, ℕ, ◌<◌, ◌^◌, List, length, Bool, true, false, ◌&&◌, Err, None, refl, arith, nat_le}
use Rattle.std.specs.Str.{all_ascii_digits}
use Rattle.std.specs.Str.Parse.{ParsesUnsigned, digits_value}
use Rattle.std.proofs.lemmas.Bool.Decides.{nat_tests}
use Rattle.std.proofs.lemmas.Str.Parse.{IsNumeralModel, numerals_by_value, tells_all_ascii_digits, parse_digits}
use Rattle.ld_base.specs.Maybe.{provided}
use Rattle.ld_words.specs.Forms.{is_up_to, number_word}

own : IsNumeralModel (λ ds. all_ascii_digits ds ≡ true) (digits_value 10)
own = numerals_by_value _ tells_all_ascii_digits

last_fails : (a b c d : Bool) (n : ℕ) → d ≡ false → None ≡ provided (a && (b && (c && d))) n
last_fails a b c true n is = cc
last_fails true true true false n is = refl
last_fails true true false false n is = refl
last_fails true false c false n is = refl
last_fails false b c false n is = refl

above : (most value : ℕ) → most < 2 ^ 32 → (value < 2 ^ 32 → ⊥) → nat_le value most ≡ false
above most value fits large = grind (arith, nat_tests)

-- Where `parse` refuses digits, they write more than any number that is asked for.
pub too_large : {E : Type 0} (word : List ℕ) (digits least most : ℕ) (e : E) → ParsesUnsigned 32 10 word (Err e)
    → all_ascii_digits word ≡ true → 0 < length word → most < 2 ^ 32 → None ≡ number_word digits least most word
too_large word digits least most e parsed are_digits some fits =
    let refused = parse_digits own 32 word (Err e) parsed are_digits in
    last_fails (all_ascii_digits word) (is_up_to digits (length word)) (nat_le least (digits_value 10 word))
    (nat_le (digits_value 10 word) most) (digits_value 10 word)
    (above most (digits_value 10 word) fits (λ small. refused (some, small)))
