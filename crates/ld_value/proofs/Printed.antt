-- A number in a fixed count of digits, and a moment's text from its parts.
use Rattle.std.proofs.Common.{◌≡◌, ℕ, zero, suc, List, ◌++◌, ◌+◌, ◌-◌, ◌*◌, ◌/◌, ◌%◌, ◌<◌, ◌≤◌, ◌^◌, true, refl, sym, arith, length, take, drop, replicate, get_or, add-one, length-take, length-drop}
use Rattle.std.specs.Str.{all_ascii_digits}
use Rattle.std.specs.Char.{is_ascii_digit}
use Rattle.std.proofs.Math.Seq.{take-suc, take-add}
use Rattle.std.specs.Str.Parse.{digits_value}
use Rattle.std.specs.Int.{IsInRange}
use Rattle.std.proofs.lemmas.Grind.{common_steps}
use Rattle.std.proofs.lemmas.List.{take_all}
use Rattle.ld_value.specs.Calendar.{in_digits, moment_text, has_moment_form, moment_pattern, part}
use Rattle.ld_value.proofs.Numerals.{digits_value-next, digits_value-take_next, digit_in}
use Rattle.ld_value.proofs.Pattern.{length-moment, digits_of_moment, byte_of_moment}

digit_glyph : (n : ℕ) → is_ascii_digit (48 + n % 10) ≡ true
digit_glyph n = grind arith

last_digit : (n : ℕ) → IsInRange 48 57 (48 + n % 10)
last_digit n = (omega arith, omega arith)

pub digits_value-in_digits : (count n : ℕ) → n < 10 ^ count → digits_value 10 (in_digits count n) ≡ n
digits_value-in_digits zero n h = omega arith
digits_value-in_digits (suc count) n h =
    let front : n / 10 < 10 ^ count = grind (arith, common_steps) in
    let before = digits_value-in_digits count (n / 10) front in
    omega (arith, digits_value-next (in_digits count (n / 10)) (48 + n % 10) (last_digit n))

-- the digits of the value that digits write
in_digits-taken : (ds : List ℕ) (count : ℕ) → all_ascii_digits ds ≡ true → count ≤ length ds → in_digits count (digits_value 10 (take count ds)) ≡ take count ds
in_digits-taken ds zero h within = refl
in_digits-taken ds (suc count) h within =
    let next : digits_value 10 (take (suc count) ds) ≡ 10 * digits_value 10 (take count ds) + (get_or ds count 0 - 48) = rw (add-one count) at (digits_value-take_next ds count h within) in
    let digit = digit_in ds count h within in
    let quotient : digits_value 10 (take (suc count) ds) / 10 ≡ digits_value 10 (take count ds) = omega arith in
    let glyph : 48 + digits_value 10 (take (suc count) ds) % 10 ≡ get_or ds count 0 = omega arith in
    rw (quotient, glyph, in_digits-taken ds count h (omega arith)) (sym (take-suc ds count 0 within))

pub in_digits-digits_value : (ds : List ℕ) (count : ℕ) → all_ascii_digits ds ≡ true → length ds ≡ count → in_digits count (digits_value 10 ds) ≡ ds
in_digits-digits_value ds count h long =
    let whole : take count ds ≡ ds = take_all count ds (omega arith) in
    rw whole at (in_digits-taken ds count h (omega arith))

pub has_moment_form-moment_text : (year month day hour minute second : ℕ) → has_moment_form (moment_text year month day hour minute second) ≡ true
unfolding has_moment_form
has_moment_form-moment_text year month day hour minute second = simp digit_glyph

part_of_moment : (t : List ℕ) (from count : ℕ) → has_moment_form t ≡ true → take count (drop from moment_pattern) ≡ replicate count 48 → from + count ≤ 20 → in_digits count (part from count t) ≡ take count (drop from t)
part_of_moment t from count h zeros within =
    let long : length (take count (drop from t)) ≡ count = simp (length-take, length-drop) (omega (arith, length-moment t h)) in
    in_digits-digits_value (take count (drop from t)) count (digits_of_moment t from count h zeros) long

-- twelve pieces that follow one another
joined : (t y b4 m b7 d b10 h b13 n b16 s b19 : List ℕ) → length t ≡ 20
    → y ≡ take 4 t → b4 ≡ take 1 (drop 4 t) → m ≡ take 2 (drop 5 t) → b7 ≡ take 1 (drop 7 t) → d ≡ take 2 (drop 8 t) → b10 ≡ take 1 (drop 10 t)
    → h ≡ take 2 (drop 11 t) → b13 ≡ take 1 (drop 13 t) → n ≡ take 2 (drop 14 t) → b16 ≡ take 1 (drop 16 t) → s ≡ take 2 (drop 17 t) → b19 ≡ take 1 (drop 19 t)
    → y ++ b4 ++ m ++ b7 ++ d ++ b10 ++ h ++ b13 ++ n ++ b16 ++ s ++ b19 ≡ t
joined t y b4 m b7 d b10 h b13 n b16 s b19 long e0 e4 e5 e7 e8 e10 e11 e13 e14 e16 e17 e19 =
    rw (e0, e4, e5, e7, e8, e10, e11, e13, e14, e16, e17, e19)
    (rw (← take-add 4 1 t, ← take-add 5 2 t, ← take-add 7 1 t, ← take-add 8 2 t, ← take-add 10 1 t, ← take-add 11 2 t, ← take-add 13 1 t, ← take-add 14 2 t, ← take-add 16 1 t, ← take-add 17 2 t, ← take-add 19 1 t)
    (take_all 20 t (omega arith)))

-- a text of a moment's form is what its parts print
pub moment_text-parts : (t : List ℕ) → has_moment_form t ≡ true → moment_text (part 0 4 t) (part 5 2 t) (part 8 2 t) (part 11 2 t) (part 14 2 t) (part 17 2 t) ≡ t
moment_text-parts t h =
    let y = part_of_moment t 0 4 h refl (omega arith) in
    let m = part_of_moment t 5 2 h refl (omega arith) in
    let d = part_of_moment t 8 2 h refl (omega arith) in
    let hour = part_of_moment t 11 2 h refl (omega arith) in
    let minute = part_of_moment t 14 2 h refl (omega arith) in
    let second = part_of_moment t 17 2 h refl (omega arith) in
    let b4 = byte_of_moment t 45 4 h refl refl in
    let b7 = byte_of_moment t 45 7 h refl refl in
    let b10 = byte_of_moment t 84 10 h refl refl in
    let b13 = byte_of_moment t 58 13 h refl refl in
    let b16 = byte_of_moment t 58 16 h refl refl in
    let b19 = byte_of_moment t 90 19 h refl refl in
    joined t _ _ _ _ _ _ _ _ _ _ _ _ (length-moment t h) y (sym b4) m (sym b7) d (sym b10) hour (sym b13) minute (sym b16) second (sym b19)
