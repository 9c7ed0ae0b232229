-- How many numbers below another pass a test.
use Rattle.std.proofs.Common.{◌≡◌, ℕ, zero, suc, ◌+◌, ◌<◌, ◌≤◌, ◌⊎◌, inl, inr, Bool, true, false, refl, sym, ◌∙◌, arith}
use Rattle.std.proofs.lemmas.Bool.{cases_eq, false≢true}

abbrev pub one_if : Bool → ℕ
one_if true = 1
one_if false = 0

abbrev pub count : (ℕ → Bool) → ℕ → ℕ
count p zero = 0
count p (suc n) = one_if (p n) + count p n

-- What passes the one test passes the other.
abbrev pub Implies : (ℕ → Bool) → (ℕ → Bool) → Type 0
Implies p q = (a : ℕ) → p a ≡ true → q a ≡ true

-- Below n, what passes the second passes the first.
abbrev pub Returns : (ℕ → Bool) → (ℕ → Bool) → ℕ → Type 0
Returns p q n = (a : ℕ) → a < n → q a ≡ true → p a ≡ true

pub at_most : (p : ℕ → Bool) (n : ℕ) → count p n ≤ n
at_most p zero = omega arith
at_most p (suc n) = by (p n) (at_most p n)
  where
    by : (b : Bool) → count p n ≤ n → one_if b + count p n ≤ suc n
    by true rest = omega (arith, rest)
    by false rest = omega (arith, rest)

one_more : (b d : Bool) → (b ≡ true → d ≡ true) → one_if b ≤ one_if d
one_more true true both = omega arith
one_more true false both = absurd (false≢true (both refl))
one_more false true both = omega arith
one_more false false both = omega arith

pub no_fewer : (p q : ℕ → Bool) (n : ℕ) → Implies p q → count p n ≤ count q n
no_fewer p q zero both = omega arith
no_fewer p q (suc n) both = omega (arith, one_more (p n) (q n) (both n), no_fewer p q n both)

-- A number that passes the second alone makes one more.
pub more_with : (p q : ℕ → Bool) (n x : ℕ) → Implies p q → x < n → p x ≡ false → q x ≡ true → count p n < count q n
more_with p q zero x both within fails passes = absurd (omega (arith, within))
more_with p q (suc n) x both within fails passes = elim (cases_eq x n) [
  | inl same ↦ (let p_is : p n ≡ false = rw (sym same) fails in
      let q_is : q n ≡ true = rw (sym same) passes in
      rw (p_is, q_is) (omega (arith, no_fewer p q n both)))
  | inr other ↦ omega (arith, one_more (p n) (q n) (both n), more_with p q n x both (omega (arith, within, other)) fails passes)
]

-- Either as many pass the one as the other, and so the same, or more pass the second.
pub same_or_more : (p q : ℕ → Bool) (n : ℕ) → Implies p q → Returns p q n ⊎ (count p n < count q n)
same_or_more p q zero both = inl (λ a within. absurd (omega (arith, within)))
same_or_more p q (suc n) both = elim (same_or_more p q n both) [
  | inr more ↦ inr (omega (arith, one_more (p n) (q n) (both n), more))
  | inl same ↦ by (p n) (q n) refl refl same
]
  where
    by : (b d : Bool) → p n ≡ b → q n ≡ d → Returns p q n → Returns p q (suc n) ⊎ (count p (suc n) < count q (suc n))
    by true d p_is q_is same = inl (λ a within passes. elim (cases_eq a n) [
      | inl at ↦ rw at p_is
      | inr before ↦ same a (omega (arith, within, before)) passes
    ])
    by false true p_is q_is same = inr (rw (p_is, q_is) (omega (arith, no_fewer p q n both)))
    by false false p_is q_is same = inl (λ a within passes. elim (cases_eq a n) [
      | inl at ↦ absurd (false≢true (sym q_is ∙ rw (sym at) passes))
      | inr before ↦ same a (omega (arith, within, before)) passes
    ])

-- Where as many pass as there are numbers, all pass.
pub all_pass : (p : ℕ → Bool) (n : ℕ) → n ≤ count p n → (a : ℕ) → a < n → p a ≡ true
all_pass p zero full a within = absurd (omega (arith, within))
all_pass p (suc n) full a within = by (p n) refl (all_pass p n)
  where
    by : (b : Bool) → p n ≡ b → (n ≤ count p n → (a : ℕ) → a < n → p a ≡ true) → p a ≡ true
    by false is rest = absurd (omega (arith, at_most p n, rw is at full))
    by true is rest = elim (cases_eq a n) [
      | inl at ↦ rw at is
      | inr before ↦ rest (omega (arith, rw is at full)) a (omega (arith, within, before))
    ]
