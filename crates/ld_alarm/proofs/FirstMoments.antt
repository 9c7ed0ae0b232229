-- The first moment that passes a test, among all of them.
use Rattle.std.proofs.Common.{◌≡◌, refl, ℕ, zero, suc, ℤ, pos, negsuc, ◌+ℤ◌, ◌≤ℤ◌, inl, inr, Some, None, Bool, true, false, int_le, arith}
use Rattle.std.specs.Int.{int_gap}
use Rattle.jiff_core.proofs.SignedLemmas.{signed_arith}
use Rattle.ld_value.proofs.Choices.{bool_cases}
use Rattle.ld_alarm.specs.Alarm.{first_moment, first_after}

-- No moment from the one on and before the other passes.
abbrev pub NonePasses : (ℤ → Bool) → ℤ → ℤ → Type 0
NonePasses passes from to = (z : ℤ) → from ≤ℤ z → (z +ℤ pos 1) ≤ℤ to → passes z ≡ false

none_of : (n : ℕ) (from : ℤ) (passes : ℤ → Bool) → NonePasses passes from (from +ℤ pos n)
    → first_moment n from passes ≡ None
none_of zero from passes none = refl
none_of (suc n) from passes none =
    let here : passes from ≡ false = none from (omega (arith, signed_arith)) (omega (arith, signed_arith)) in
    let later : NonePasses passes (from +ℤ pos 1) ((from +ℤ pos 1) +ℤ pos n) = λ z low high. none z (omega (arith, signed_arith, low)) (omega (arith, signed_arith, high)) in
    rw here (none_of n (from +ℤ pos 1) passes later)

first_of_them : (n : ℕ) (from : ℤ) (passes : ℤ → Bool) (z : ℤ) → from ≤ℤ z → (z +ℤ pos 1) ≤ℤ (from +ℤ pos n)
    → passes z ≡ true → NonePasses passes from z → first_moment n from passes ≡ Some z
first_of_them zero from passes z low high goes none = absurd (omega (arith, signed_arith, low, high))
first_of_them (suc n) from passes z low high goes none = elim (bool_cases (int_le z from)) [
  | inl at ↦
      let same : z ≡ from = omega (arith, signed_arith, low, at) in
      let here : passes from ≡ true = rw same at goes in
      rw (here, same) refl
  | inr later ↦
      let here : passes from ≡ false = none from (omega (arith, signed_arith)) (omega (arith, signed_arith, later)) in
      rw here (first_of_them n (from +ℤ pos 1) passes z (omega (arith, signed_arith, later)) (omega (arith, signed_arith, high)) goes
      (λ y above below. none y (omega (arith, signed_arith, above)) below))
]

-- How far one number is above another, where it is.
pub gap_is : (a b : ℤ) → a ≤ℤ b → (a +ℤ pos (int_gap a b)) ≡ b
gap_is (pos a) (pos b) h = omega (arith, signed_arith, h)
gap_is (pos a) (negsuc b) h = absurd (omega (arith, signed_arith, h))
gap_is (negsuc a) (pos b) h = omega (arith, signed_arith, h)
gap_is (negsuc a) (negsuc b) h = omega (arith, signed_arith, h)

-- From the last moment on there is no gap to it.
no_gap : (a b : ℤ) → b ≤ℤ a → int_gap a b ≡ 0
no_gap (pos a) (pos b) h = omega (arith, signed_arith, h)
no_gap (pos a) (negsuc b) h = refl
no_gap (negsuc a) (pos b) h = absurd (omega (arith, signed_arith, h))
no_gap (negsuc a) (negsuc b) h = omega (arith, signed_arith, h)

-- No moment after this one passes.
pub none_after : (moment : ℤ) (passes : ℤ → Bool)
    → NonePasses passes (moment +ℤ pos 1) (pos 253402300799 +ℤ pos 1) → first_after moment passes ≡ None
unfolding first_after
none_after moment passes none = elim (bool_cases (int_le moment (pos 253402300799))) [
  | inl by ↦
      let gap = gap_is moment (pos 253402300799) (omega (arith, signed_arith, by)) in
      none_of (int_gap moment (pos 253402300799)) (moment +ℤ pos 1) passes
      (λ z low high. none z low (omega (arith, signed_arith, gap, high)))
  | inr over ↦ rw (no_gap moment (pos 253402300799) (omega (arith, signed_arith, over))) refl
]

-- This is the first moment after the other that passes.
pub first_is : (moment : ℤ) (passes : ℤ → Bool) (z : ℤ) → (moment +ℤ pos 1) ≤ℤ z → z ≤ℤ pos 253402300799
    → passes z ≡ true → NonePasses passes (moment +ℤ pos 1) z → first_after moment passes ≡ Some z
unfolding first_after
first_is moment passes z low high goes none =
    let gap = gap_is moment (pos 253402300799) (omega (arith, signed_arith, low, high)) in
    first_of_them (int_gap moment (pos 253402300799)) (moment +ℤ pos 1) passes z low
    (omega (arith, signed_arith, gap, high)) goes none
