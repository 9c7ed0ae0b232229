-- What the first moment that passes a test says of the moments: it passes, and none before it does.
use Rattle.std.proofs.Common.{◌≡◌, refl, subst, ℕ, zero, suc, ℤ, pos, negsuc, ◌+ℤ◌, ◌≤ℤ◌, inl, inr, Some, Bool, true, false, int_le, arith, if◌then◌else◌}
use Rattle.std.specs.Int.{int_gap}
use Rattle.jiff_core.proofs.SignedLemmas.{signed_arith}
use Rattle.ld_value.proofs.Choices.{bool_cases}
use Rattle.ld_alarm.specs.Alarm.{first_moment, first_after}
use Rattle.ld_alarm.specs.Later.{IsBefore}
use Rattle.ld_alarm.proofs.FirstMoments.{gap_is}

some_is : {a b : ℤ} → Some a ≡ Some b → a ≡ b
some_is h = cc

-- What is found passes.
found_passes : (n : ℕ) (from : ℤ) (passes : ℤ → Bool) (z : ℤ) → first_moment n from passes ≡ Some z → passes z ≡ true
found_passes zero from passes z is = absurd (cc)
found_passes (suc n) from passes z is = by (passes from) refl is (found_passes n (from +ℤ pos 1) passes z)
  where
    by : (here : Bool) → passes from ≡ here → (if here then Some from else first_moment n (from +ℤ pos 1) passes) ≡ Some z
        → (first_moment n (from +ℤ pos 1) passes ≡ Some z → passes z ≡ true) → passes z ≡ true
    by true at found later = subst (λ y. passes y ≡ true) (some_is found) at
    by false at found later = later found

-- What comes before it does not pass; and where nothing is found, none of them does.
none_before : (n : ℕ) (from : ℤ) (passes : ℤ → Bool) (z : ℤ) → from ≤ℤ z → (z +ℤ pos 1) ≤ℤ (from +ℤ pos n)
    → IsBefore z (first_moment n from passes) → passes z ≡ false
none_before zero from passes z low high before = absurd (omega (arith, signed_arith, low, high))
none_before (suc n) from passes z low high before =
    by (passes from) refl before
    (λ later rest. none_before n (from +ℤ pos 1) passes z later (omega (arith, signed_arith, high)) rest)
  where
    by : (here : Bool) → passes from ≡ here → IsBefore z (if here then Some from else first_moment n (from +ℤ pos 1) passes)
        → ((from +ℤ pos 1) ≤ℤ z → IsBefore z (first_moment n (from +ℤ pos 1) passes) → passes z ≡ false) → passes z ≡ false
    by true at rest later = absurd (omega (arith, signed_arith, low, rest))
    by false at rest later = elim (bool_cases (int_le z from)) [
      | inl same ↦ let here : z ≡ from = omega (arith, signed_arith, low, same) in rw here at
      | inr more ↦ later (omega (arith, signed_arith, more)) rest
    ]

pub found_then : (now : ℤ) (passes : ℤ → Bool) (z : ℤ) → first_after now passes ≡ Some z → passes z ≡ true
unfolding first_after
found_then now passes z is = found_passes (int_gap now (pos 253402300799)) (now +ℤ pos 1) passes z is

pub none_until : (now : ℤ) (passes : ℤ → Bool) (z : ℤ) → (now +ℤ pos 1) ≤ℤ z → z ≤ℤ pos 253402300799
    → IsBefore z (first_after now passes) → passes z ≡ false
unfolding first_after
none_until now passes z low high before =
    let gap = gap_is now (pos 253402300799) (omega (arith, signed_arith, low, high)) in
    none_before (int_gap now (pos 253402300799)) (now +ℤ pos 1) passes z low (omega (arith, signed_arith, gap, high)) before

-- What is found comes after the moment, and not after the last that there is.
pub record IsLater (now z : ℤ) : Type 0 where
  pub later : (now +ℤ pos 1) ≤ℤ z
  pub last : z ≤ℤ pos 253402300799

found_within : (n : ℕ) (from : ℤ) (passes : ℤ → Bool) (z : ℤ) → first_moment n from passes ≡ Some z
    → (from ≤ℤ z) × ((z +ℤ pos 1) ≤ℤ (from +ℤ pos n))
found_within zero from passes z is = absurd (cc)
found_within (suc n) from passes z is = by (passes from) is (found_within n (from +ℤ pos 1) passes z)
  where
    by : (here : Bool) → (if here then Some from else first_moment n (from +ℤ pos 1) passes) ≡ Some z
        → (first_moment n (from +ℤ pos 1) passes ≡ Some z → ((from +ℤ pos 1) ≤ℤ z) × ((z +ℤ pos 1) ≤ℤ ((from +ℤ pos 1) +ℤ pos n)))
        → (from ≤ℤ z) × ((z +ℤ pos 1) ≤ℤ (from +ℤ pos (suc n)))
    by true found more =
        let here = some_is found in
        (omega (arith, signed_arith, here), omega (arith, signed_arith, here))
    by false found more =
        let later = more found in
        (omega (arith, signed_arith, later.0), omega (arith, signed_arith, later.1))

-- Above a number no gap is left.
no_gap : (a b : ℤ) → (b +ℤ pos 1) ≤ℤ a → int_gap a b ≡ 0
no_gap (pos a) (pos b) h = omega (arith, signed_arith, h)
no_gap (pos a) (negsuc b) h = refl
no_gap (negsuc a) (pos b) h = absurd (omega (arith, signed_arith, h))
no_gap (negsuc a) (negsuc b) h = omega (arith, signed_arith, h)

pub found_later : (now : ℤ) (passes : ℤ → Bool) (z : ℤ) → first_after now passes ≡ Some z → IsLater now z
unfolding first_after
found_later now passes z is =
    let within = found_within (int_gap now (pos 253402300799)) (now +ℤ pos 1) passes z is in
    elim (bool_cases (int_le now (pos 253402300799))) [
      | inl below ↦
          let gap = gap_is now (pos 253402300799) (omega (arith, signed_arith, below)) in
          record { later = within.0; last = omega (arith, signed_arith, gap, within.1) }
      | inr above ↦
          let none = no_gap now (pos 253402300799) (omega (arith, signed_arith, above)) in
          absurd (omega (arith, signed_arith, none, within.0, within.1))
    ]
