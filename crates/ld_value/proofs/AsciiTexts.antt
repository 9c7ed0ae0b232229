-- Printed texts are ASCII.
use Rattle.std.proofs.Common.{ℕ, zero, suc, List, [], ◌∷◌, ◌++◌, ◌+◌, ◌/◌, ◌%◌, ◌<◌, ◌^◌, arith, codes, ◌==◌, ℤ}
use Rattle.std.specs.Str.{IsAscii}
use Rattle.std.specs.Fmt.{decimal}
use Rattle.std.proofs.Common.{inl, inr}
use Rattle.std.proofs.lemmas.Str.{IsAscii-append}
use Rattle.std.proofs.lemmas.Str.Ascii.{IsAscii-nil}
use Rattle.std.proofs.lemmas.Fmt.{IsAscii-decimal}
use Rattle.ld_value.specs.Calendar.{in_digits, moment_text, text_of_moment, day_and_second_text}
use Rattle.ld_value.specs.Duration.{part_text, shown, span_parts, time_text, has_time, span_text}
use Rattle.ld_value.proofs.Choices.{bool_cases}
use Rattle.ld_value.proofs.Durations.{shown_cases}

-- `IsAscii` as a record, so that its list is found from a proof
record Plain (xs : List ℕ) : Type 0 where
  ascii : IsAscii xs

one_is : (b : ℕ) → b < 128 → IsAscii (b ∷ [])
one_is b h zero = h
one_is b h (suc i) = omega arith

one : (b : ℕ) → b < 128 → Plain (b ∷ [])
one b h = record { ascii = one_is b h }

none_there : Plain []
none_there = record { ascii = IsAscii-nil }

-- one piece more
more : {xs ys : List ℕ} → Plain xs → Plain ys → Plain (xs ++ ys)
more {xs} {ys} h k = record { ascii = IsAscii-append xs ys h.ascii k.ascii }

digits : (count n : ℕ) → Plain (in_digits count n)
digits zero n = none_there
digits (suc count) n = more (digits count (n / 10)) (one (48 + n % 10) (omega arith))

moment : (y m d h n s : ℕ) → Plain (moment_text y m d h n s)
moment y m d h n s =
    more (more (more (more (more (more (more (more (more (more (more
    (digits 4 y) (one 45 (omega arith))) (digits 2 m)) (one 45 (omega arith))) (digits 2 d)) (one 84 (omega arith)))
    (digits 2 h)) (one 58 (omega arith))) (digits 2 n)) (one 58 (omega arith))) (digits 2 s)) (one 90 (omega arith))

pub IsAscii-text_of_moment : (z : ℤ) → IsAscii (text_of_moment z)
unfolding text_of_moment day_and_second_text
IsAscii-text_of_moment z = let is = moment _ _ _ _ _ _ in is.ascii

decimals : (n : ℕ) → n < 2 ^ 64 → Plain (decimal n)
decimals n fits = record { ascii = IsAscii-decimal n fits }

part : (letter n : ℕ) → letter < 128 → n < 2 ^ 64 → Plain (part_text letter (shown n))
part letter n h fits =
    elim (shown_cases n) [
      | inl (same, e) ↦ rw e none_there
      | inr (some, e) ↦ rw e (more (decimals n fits) (one letter h))
    ]

time : (n : ℕ) → n < 2 ^ 64 → Plain (time_text (span_parts n))
time n h =
    elim (bool_cases (has_time (span_parts n))) [
      | inl some ↦ rw some (more (more (more (one 84 (omega arith)) (part 72 (n / 3600 % 24) (omega arith) (omega arith))) (part 77 (n / 60 % 60) (omega arith) (omega arith))) (part 83 (n % 60) (omega arith) (omega arith)))
      | inr absent ↦ rw absent none_there
    ]

zero_text : Plain (codes "PT0S")
zero_text = more (one 80 (omega arith)) (more (one 84 (omega arith)) (more (one 48 (omega arith)) (one 83 (omega arith))))

span : (n : ℕ) → n < 2 ^ 64 → Plain (span_text n)
unfolding span_text
span n h =
    elim (bool_cases (n == 0)) [
      | inl absent ↦ rw absent zero_text
      | inr there ↦ rw there (more (more (one 80 (omega arith)) (part 68 (n / 86400) (omega arith) (omega arith))) (time n h))
    ]

pub IsAscii-span_text : (n : ℕ) → n < 2 ^ 64 → IsAscii (span_text n)
IsAscii-span_text n h = (span n h).ascii
