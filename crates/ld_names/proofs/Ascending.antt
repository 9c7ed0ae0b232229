-- A list whose elements have ascending numbers: they are told apart by these, found by them, and found again in their
-- order by going through the numbers.
use Rattle.std.proofs.Common.{◌≡◌, ℕ, zero, suc, ◌+◌, ◌<◌, ◌≤◌, List, [], ◌∷◌, ◌++◌, length, get_or, find, filter_map, nat_eq, Option, Some, None, Contains, refl, sym, ap, ◌∙◌, arith, inl, inr}
use Rattle.std.specs.List.{range_with_len}
use Rattle.std.proofs.lemmas.Bool.{cases_eq, eq-eqb, ne_eqb}
use Rattle.ld_names.specs.SiteNumbers.{Ascends}

pub widened : {X : Type 0} (number : X → ℕ) (a b c d : ℕ) (xs : List X) → a ≤ b → c ≤ d → Ascends number b xs c → Ascends number a xs d
widened number a b c d [] low high ascends = omega (arith, low, high, ascends)
widened number a b c d (x ∷ xs) low high ascends =
    (omega (arith, low, ascends.0), widened number (number x + 1) (number x + 1) c d xs (omega arith) high ascends.1)

pub ascends_on : {X : Type 0} (number : X → ℕ) (a b c : ℕ) (xs ys : List X) → Ascends number a xs b → Ascends number b ys c → Ascends number a (xs ++ ys) c
ascends_on number a b c [] ys first then = widened number a b c c ys first (omega arith) then
ascends_on number a b c (x ∷ xs) ys first then = (first.0, ascends_on number (number x + 1) b c xs ys first.1 then)

ends : {X : Type 0} (number : X → ℕ) (a b : ℕ) (xs : List X) → Ascends number a xs b → a ≤ b
ends number a b [] ascends = ascends
ends number a b (x ∷ xs) ascends = omega (arith, ascends.0, ends number (number x + 1) b xs ascends.1)

-- The element of this number.
abbrev pub numbered : {X : Type 0} → (X → ℕ) → List X → ℕ → Option X
numbered number xs i = find (λ x. nat_eq (number x) i) xs

-- ---- an element

-- The number of an element is within the bounds, and it is found by it.
pub record IsFound {X : Type 0} (number : X → ℕ) (a b : ℕ) (xs : List X) (x : X) : Type 0 where
  pub from : a ≤ number x
  pub below : number x < b
  pub found : numbered number xs (number x) ≡ Some x

found_at : {X : Type 0} (number : X → ℕ) (a b : ℕ) (xs : List X) (x : X) (k : ℕ) → Ascends number a xs b → k < length xs → get_or xs k x ≡ x
    → IsFound number a b xs x
found_at number a b [] x k ascends below is = absurd (omega (arith, below))
found_at number a b (y ∷ ys) x zero ascends below is =
    record {
      from = omega (arith, ascends.0, ap number is);
      below = omega (arith, ends number (number y + 1) b ys ascends.1, ap number is);
      found = rw (eq-eqb (number y) (number x) (ap number is)) (ap Some is);
    }
found_at number a b (y ∷ ys) x (suc k) ascends below is =
    let rest = found_at number (number y + 1) b ys x k ascends.1 (omega (arith, below)) is in
    record {
      from = omega (arith, ascends.0, rest.from);
      below = rest.below;
      found = rw (ne_eqb (number y) (number x) (λ same. omega (arith, same, rest.from))) rest.found;
    }

pub is_found : {X : Type 0} (number : X → ℕ) (a b : ℕ) (xs : List X) (x : X) → Ascends number a xs b → Contains xs x → IsFound number a b xs x
is_found number a b xs x ascends there = found_at number a b xs x there.0 ascends there.1 there.2

-- Two elements of one number are one.
pub told_apart : {X : Type 0} (number : X → ℕ) (a b : ℕ) (xs : List X) (x y : X) → Ascends number a xs b → Contains xs x → Contains xs y
    → number x ≡ number y → x ≡ y
told_apart number a b xs x y ascends there other same =
    let both : Some x ≡ Some y =
    sym (is_found number a b xs x ascends there).found ∙ ap (numbered number xs) same ∙ (is_found number a b xs y ascends other).found in
    cc

-- ---- all elements

-- No element has a number that is lower than all.
none_lower : {X : Type 0} (number : X → ℕ) (a b i : ℕ) (xs : List X) → Ascends number a xs b → i < a → numbered number xs i ≡ None
none_lower number a b i [] ascends low = refl
none_lower number a b i (x ∷ xs) ascends low =
    rw (ne_eqb (number x) i (λ same. omega (arith, same, low, ascends.0))) (none_lower number (number x + 1) b i xs ascends.1 (omega (arith, low, ascends.0)))

passed : {X : Type 0} (number : X → ℕ) (x : X) (xs : List X) (i : ℕ) → number x < i → numbered number (x ∷ xs) i ≡ numbered number xs i
passed number x xs i low = rw (ne_eqb (number x) i (λ same. omega (arith, same, low))) refl

-- The elements of the numbers from a on, where those of the whole list are those of its rest.
pub found_again : {X : Type 0} (number : X → ℕ) (all : List X) (n a : ℕ) (xs : List X) → Ascends number a xs (a + n) → ((i : ℕ) → a ≤ i → numbered number all i ≡ numbered number xs i) → filter_map (numbered number all) (range_with_len a n) ≡ xs
found_again number all zero a [] ascends same = refl
found_again number all zero a (x ∷ xs) ascends same = absurd (omega (arith, ascends.0, ends number (number x + 1) (a + 0) xs ascends.1))
found_again number all (suc n) a [] ascends same =
    rw (same a (omega arith)) (found_again number all n (a + 1) [] (omega arith) (λ i more. same i (omega (arith, more))))
found_again number all (suc n) a (x ∷ xs) ascends same = elim (cases_eq (number x) a) [
  | inl at ↦
      let here : numbered number all a ≡ Some x = same a (omega arith) ∙ rw (eq-eqb (number x) a at) refl in
      rw here (ap (λ rest. x ∷ rest) (found_again number all n (a + 1) xs (widened number (a + 1) (number x + 1) (a + suc n) (a + 1 + n) xs (omega (arith, at)) (omega arith) ascends.1) (λ i more. same i (omega (arith, more)) ∙ passed number x xs i (omega (arith, at, more)))))
  | inr other ↦
      let before : a + 1 ≤ number x = omega (arith, other, ascends.0) in
      let later : Ascends number (a + 1) (x ∷ xs) (a + 1 + n) = (before, widened number (number x + 1) (number x + 1) (a + suc n) (a + 1 + n) xs (omega arith) (omega arith) ascends.1) in
      let none : numbered number all a ≡ None = same a (omega arith) ∙ none_lower number (a + 1) (a + 1 + n) a (x ∷ xs) later (omega arith) in
      rw none (found_again number all n (a + 1) (x ∷ xs) later (λ i more. same i (omega (arith, more))))
]
