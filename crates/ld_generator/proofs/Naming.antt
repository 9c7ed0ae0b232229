-- Identifiers with a number at their end.
use Rattle.std.proofs.Common.{◌≡◌, ℕ, ◌<◌, ◌≤◌, suc, List, [], ◌∷◌, length, Bool, true, false, ◌&&◌, refl, arith, decimal, nat_le}
use Rattle.std.specs.Char.{is_ascii_digit}
use Rattle.std.specs.List.{list_all}
use Rattle.std.specs.Str.{all_ascii_digits}
use Rattle.std.specs.Str.Parse.{digits_value}
use Rattle.std.proofs.lemmas.Bool.Decides.{nat_tests}
use Rattle.std.proofs.lemmas.Fmt.{digits_decimal, length-decimal-le}
use Rattle.std.proofs.lemmas.Str.Parse.{IsNumeralModel, numerals_by_value, tells_all_ascii_digits}
use Rattle.ld_base.specs.Identifier.{has_identifier_form, begins_identifier, continues_identifier}
use Rattle.ld_generator.specs.GeneratedUnit.{activity_name}

own : IsNumeralModel (λ ds. all_ascii_digits ds ≡ true) (digits_value 10)
own = numerals_by_value _ tells_all_ascii_digits

both : (a b : Bool) → a ≡ true → b ≡ true → (a && b) ≡ true
both true true is also = refl
both true false is also = also
both false b is also = is

left_of : (a b : Bool) → (a && b) ≡ true → a ≡ true
left_of true b is = refl
left_of false b is = is

right_of : (a b : Bool) → (a && b) ≡ true → b ≡ true
right_of true b is = is
right_of false b is = cc

-- An identifier may go on with a digit.
digit_continues : (b : ℕ) → is_ascii_digit b ≡ true → continues_identifier b ≡ true
unfolding continues_identifier
digit_continues b is = rw is refl

digits_continue : (ds : List ℕ) → all_ascii_digits ds ≡ true → list_all continues_identifier ds ≡ true
digits_continue [] digits = refl
digits_continue (d ∷ ds) digits =
    both (continues_identifier d) (list_all continues_identifier ds)
    (digit_continues d (left_of (is_ascii_digit d) (all_ascii_digits ds) digits))
    (digits_continue ds (right_of (is_ascii_digit d) (all_ascii_digits ds) digits))

short_enough : (n : ℕ) → n ≤ 3 → nat_le (suc n) 64 ≡ true
short_enough n few = grind (arith, nat_tests)

-- What names an activity is an identifier.
pub is_activity_name : (k : ℕ) → k < 256 → has_identifier_form (activity_name k) ≡ true
unfolding begins_identifier continues_identifier
is_activity_name k few =
    both _ _ (short_enough (length (decimal k)) (length-decimal-le 3 k (omega arith) (omega (arith, few)) (omega (arith, few))))
    (digits_continue (decimal k) (digits_decimal own k (omega (arith, few))))
