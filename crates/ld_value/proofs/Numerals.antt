-- The number that digits write, one digit after the other.
use Rattle.std.proofs.Common.{◌≡◌, ℕ, List, [], ◌∷◌, ◌++◌, ◌+◌, ◌-◌, ◌*◌, ◌<◌, ◌≤◌, ◌^◌, true, refl, arith, length, take, get_or, zero, suc, not, ◌&&◌, ◌==◌, nat_le}
use Rattle.std.specs.Str.{all_ascii_digits}
use Rattle.std.specs.Str.Parse.{digits_value, digits_value_after}
use Rattle.std.specs.Char.{digit_value}
use Rattle.std.specs.Int.{IsInRange}
use Rattle.std.specs.Fmt.{decimal}
use Rattle.std.proofs.lemmas.Fmt.{digits_decimal, digits_value-decimal, length-decimal-le, decimal_nonempty}
use Rattle.std.proofs.lemmas.Bool.Decides.{nat_tests}
use Rattle.ld_value.specs.Numeral.{is_numeral}
use Rattle.ld_value.proofs.Choices.{both}
use Rattle.std.proofs.lemmas.Str.Parse.{IsNumeralModel, numerals_by_value, tells_all_ascii_digits, digit_at, digits_value_short}
use Rattle.std.proofs.lemmas.Grind.{common_steps}
use Rattle.std.proofs.lemmas.List.{take_more}
use Rattle.std.proofs.Math.Nat.{pow-le-pow_right}

pub own : IsNumeralModel (λ ds. all_ascii_digits ds ≡ true) (digits_value 10)
own = numerals_by_value _ tells_all_ascii_digits

pub digit_in : (ds : List ℕ) (i : ℕ) → all_ascii_digits ds ≡ true → i < length ds → IsInRange 48 57 (get_or ds i 0)
digit_in ds i h below = digit_at ds i (own.to ds h) below

digit_value_is : (b : ℕ) → IsInRange 48 57 b → digit_value b ≡ b - 48
digit_value_is b h = grind arith

after-append : (n : ℕ) (ds : List ℕ) (b : ℕ) → digits_value_after 10 n (ds ++ b ∷ []) ≡ digits_value_after 10 n ds * 10 + digit_value b
after-append n [] b = refl
after-append n (d ∷ ds) b = after-append (n * 10 + digit_value d) ds b

-- one digit more
pub digits_value-next : (ds : List ℕ) (b : ℕ) → IsInRange 48 57 b → digits_value 10 (ds ++ b ∷ []) ≡ 10 * digits_value 10 ds + (b - 48)
digits_value-next ds b h = omega (arith, after-append 0 ds b, digit_value_is b h)

all_digits-take : (ds : List ℕ) (i : ℕ) → all_ascii_digits ds ≡ true → all_ascii_digits (take i ds) ≡ true
all_digits-take ds zero h = refl
all_digits-take [] (suc i) h = refl
all_digits-take (d ∷ ds) (suc i) h = grind (arith, common_steps, all_digits-take ds i)

-- the value of the first digits
pub digits_value-take_bound : (ds : List ℕ) (i : ℕ) → all_ascii_digits ds ≡ true → i ≤ length ds → digits_value 10 (take i ds) < 10 ^ i
digits_value-take_bound ds i h below = digits_value_short own (take i ds) i (all_digits-take ds i h) (grind (arith, common_steps))

pub digits_value_bound : (ds : List ℕ) → all_ascii_digits ds ≡ true → digits_value 10 ds < 10 ^ length ds
digits_value_bound ds h = digits_value_short own ds (length ds) h (omega arith)

-- of at most 19 digits, one more after some of them leaves a small number
pub room_for_next : (ds : List ℕ) (i : ℕ) → all_ascii_digits ds ≡ true → i < length ds → length ds ≤ 19 → 10 * digits_value 10 (take i ds) + (get_or ds i 0 - 48) < 10 ^ 19
room_for_next ds i h below short =
    let small = digits_value-take_bound ds i h (omega arith) in
    let larger : 10 ^ i ≤ 10 ^ 18 = pow-le-pow_right {n = 10} (omega arith) {i = i} {j = 18} (omega arith) in
    let digit = digit_in ds i h below in
    omega arith

pub digits_value-take_next : (ds : List ℕ) (i : ℕ) → all_ascii_digits ds ≡ true → i < length ds → digits_value 10 (take (i + 1) ds) ≡ 10 * digits_value 10 (take i ds) + (get_or ds i 0 - 48)
digits_value-take_next ds i h below = rw (take_more ds i 0 below) (digits_value-next (take i ds) (get_or ds i 0) (digit_in ds i h below))

-- a numeral's bound by its greatest length
pub numeral_bound : (n len most : ℕ) → n < 10 ^ len → len ≤ most → n < 10 ^ most
numeral_bound n len most h within =
    let larger : 10 ^ len ≤ 10 ^ most = pow-le-pow_right {n = 10} (omega arith) {i = len} {j = most} within in
    omega arith

numeral_length : (len most : ℕ) → 0 < len → len ≤ most → not (len == 0) && nat_le len most ≡ true
numeral_length len most h k = grind (arith, nat_tests)

-- what is printed of a number is a numeral, and writes it
pub is_numeral-decimal : (most n : ℕ) → 0 < most → n < 10 ^ most → n < 2 ^ 64 → is_numeral most (decimal n) ≡ true
is_numeral-decimal most n some below fits =
    let digits = digits_decimal own n fits in
    let first = decimal_nonempty n fits in
    let long = length-decimal-le most n some below fits in
    both _ _ digits (numeral_length (length (decimal n)) most first long)

pub digits_value_decimal : (n : ℕ) → n < 2 ^ 64 → digits_value 10 (decimal n) ≡ n
digits_value_decimal n fits = digits_value-decimal own n fits

pub all_digits-decimal : (n : ℕ) → n < 2 ^ 64 → all_ascii_digits (decimal n) ≡ true
all_digits-decimal n fits = digits_decimal own n fits
