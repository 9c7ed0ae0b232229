-- The first moment that passes one of two tests is the earlier of the first ones that pass each.
use Rattle.std.proofs.Common.{◌≡◌, refl, sym, ap₂, ℕ, zero, suc, ℤ, pos, ◌+ℤ◌, ◌≤ℤ◌, inl, inr, Option, Some, None, Bool, true, false, ◌||◌, int_lt, arith, if◌then◌else◌}
use Rattle.std.specs.Int.{int_gap}
use Rattle.jiff_core.proofs.SignedLemmas.{signed_arith}
use Rattle.ld_value.proofs.Choices.{bool_cases}
use Rattle.ld_alarm.specs.Later.{earlier}
use Rattle.ld_alarm.specs.Alarm.{first_moment, first_after}
use Rattle.ld_alarm.proofs.Comparing.{lt_test}

-- It is no earlier than this one, if there is one.
abbrev NoEarlier : ℤ → Option ℤ → Type 0
NoEarlier from None = Unit {0}
NoEarlier from (Some z) = from ≤ℤ z

later_still : (from : ℤ) (o : Option ℤ) → NoEarlier (from +ℤ pos 1) o → NoEarlier from o
later_still from None h = tt
later_still from (Some z) h = omega (arith, signed_arith, h)

no_earlier : (n : ℕ) (from : ℤ) (passes : ℤ → Bool) → NoEarlier from (first_moment n from passes)
no_earlier zero from passes = tt
no_earlier (suc n) from passes =
    by (passes from) (later_still from (first_moment n (from +ℤ pos 1) passes) (no_earlier n (from +ℤ pos 1) passes))
  where
    by : (here : Bool) → NoEarlier from (first_moment n (from +ℤ pos 1) passes)
        → NoEarlier from (if here then Some from else first_moment n (from +ℤ pos 1) passes)
    by true h = omega (arith, signed_arith)
    by false h = h

not_less : (a b : ℤ) → a ≤ℤ b → int_lt b a ≡ false
not_less a b h = elim (bool_cases (int_lt b a)) [
  | inl less ↦ absurd (omega (arith, signed_arith, h, less))
  | inr more ↦ more
]

-- This one comes first of two of which the other is no earlier.
first_of_two : (from : ℤ) (o : Option ℤ) → NoEarlier from o → earlier (Some from) o ≡ Some from
first_of_two from None h = refl
first_of_two from (Some z) h = rw (not_less from z h) refl

second_of_two : (from : ℤ) (o : Option ℤ) → NoEarlier (from +ℤ pos 1) o → earlier o (Some from) ≡ Some from
second_of_two from None h = refl
second_of_two from (Some z) h = rw (lt_test from z h) refl

moment_of_both : (n : ℕ) (from : ℤ) (p q : ℤ → Bool)
    → first_moment n from (λ z. p z || q z) ≡ earlier (first_moment n from p) (first_moment n from q)
moment_of_both zero from p q = refl
moment_of_both (suc n) from p q =
    by (p from) (q from) (moment_of_both n (from +ℤ pos 1) p q) (no_earlier n (from +ℤ pos 1) p) (no_earlier n (from +ℤ pos 1) q)
  where
    by : (a b : Bool)
        → first_moment n (from +ℤ pos 1) (λ z. p z || q z) ≡ earlier (first_moment n (from +ℤ pos 1) p) (first_moment n (from +ℤ pos 1) q)
        → NoEarlier (from +ℤ pos 1) (first_moment n (from +ℤ pos 1) p) → NoEarlier (from +ℤ pos 1) (first_moment n (from +ℤ pos 1) q)
        → (if a || b then Some from else first_moment n (from +ℤ pos 1) (λ z. p z || q z))
        ≡ earlier (if a then Some from else first_moment n (from +ℤ pos 1) p) (if b then Some from else first_moment n (from +ℤ pos 1) q)
    by true true same first second = sym (first_of_two from (Some from) (omega (arith, signed_arith)))
    by true false same first second =
        sym (first_of_two from (first_moment n (from +ℤ pos 1) q) (later_still from (first_moment n (from +ℤ pos 1) q) second))
    by false true same first second = sym (second_of_two from (first_moment n (from +ℤ pos 1) p) first)
    by false false same first second = same

pub first_of_both : (now : ℤ) (p q : ℤ → Bool)
    → first_after now (λ z. p z || q z) ≡ earlier (first_after now p) (first_after now q)
unfolding first_after
first_of_both now p q = moment_of_both (int_gap now (pos 253402300799)) (now +ℤ pos 1) p q

moment_alike : (n : ℕ) (from : ℤ) (p q : ℤ → Bool) → ((z : ℤ) → p z ≡ q z) → first_moment n from p ≡ first_moment n from q
moment_alike zero from p q same = refl
moment_alike (suc n) from p q same =
    ap₂ (λ here later. if here then Some from else later) (same from) (moment_alike n (from +ℤ pos 1) p q same)

-- Of two tests that are alike it is the same moment.
pub first_alike : (now : ℤ) (p q : ℤ → Bool) → ((z : ℤ) → p z ≡ q z) → first_after now p ≡ first_after now q
unfolding first_after
first_alike now p q same = moment_alike (int_gap now (pos 253402300799)) (now +ℤ pos 1) p q same
