-- The last number that passes a test.
use Rattle.std.proofs.Common.{◌≡◌, ℕ, zero, suc, ◌<◌, ◌≤◌, Bool, true, false, arith, inl, inr}
use Rattle.std.proofs.lemmas.Bool.{cases_order}
use Rattle.ld_value.proofs.Choices.{bool_cases}
use Rattle.ld_value.specs.Calendar.{last_passing}

-- It lies from 1 to n and passes, and no later number up to n does.
pub record IsLastPassing (n : ℕ) (passes : ℕ → Bool) (last : ℕ) : Type 0 where
  pub first : 1 ≤ last
  pub within : last ≤ n
  pub here : passes last ≡ true
  pub after : (k : ℕ) → last < k → k ≤ n → passes k ≡ false

widened : (n : ℕ) (passes : ℕ → Bool) (last : ℕ) → passes (suc n) ≡ false → IsLastPassing n passes last → IsLastPassing (suc n) passes last
widened n passes last stops h = record {
  first = h.first;
  within = omega arith;
  here = h.here;
  after = λ k above below. elim (cases_order k (suc n)) [
    | inl same ↦ rw same stops
    | inr (inl less) ↦ h.after k above (omega arith)
    | inr (inr more) ↦ absurd (omega arith)
  ];
}

pub last_passing_is : (n : ℕ) (passes : ℕ → Bool) → 1 ≤ n → passes 1 ≡ true → IsLastPassing n passes (last_passing n passes)
last_passing_is zero passes h one = absurd (omega arith)
last_passing_is (suc zero) passes h one = rw one (record { first = omega arith; within = omega arith; here = one; after = λ k above below. absurd (omega arith) })
last_passing_is (suc (suc n)) passes h one =
    elim (bool_cases (passes (suc (suc n)))) [
      | inl goes ↦ rw goes (record { first = omega arith; within = omega arith; here = goes; after = λ k above below. absurd (omega arith) })
      | inr stops ↦ rw stops (widened (suc n) passes _ stops (last_passing_is (suc n) passes (omega arith) one))
    ]
