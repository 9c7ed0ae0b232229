-- Lengths of lists of looks, and sums over lists.
use Rattle.std.proofs.Common.{◌≡◌, refl, ℕ, ◌*◌, ◌≤◌, inl, inr, List, [], ◌∷◌, length, flat_map, arith, length-append}
use Rattle.std.proofs.lemmas.List.Sums.{sum_by-cons}
use Rattle.std.specs.List.{sum_by}
use Rattle.ld_model.specs.declared.cell.CellName.{CellName}
use Rattle.ld_state.proofs.Elements.{IsIn}

pub single_looks : {A : Type 0} → (f : A → List CellName) (xs : List A) → ((x : A) → length (f x) ≤ 1)
    → length (flat_map f xs) ≤ length xs
single_looks f [] each = omega arith
single_looks f (x ∷ xs) each =
    omega (arith, length-append (f x) (flat_map f xs), each x, single_looks f xs each)

pub looks_below : {A : Type 0} → (f : A → List CellName) (h : A → ℕ) (xs : List A)
    → ((x : A) → IsIn xs x → length (f x) ≤ h x) → length (flat_map f xs) ≤ sum_by h xs
looks_below f h [] each = omega arith
looks_below f h (x ∷ xs) each =
    let rest = looks_below f h xs (λ y there. each y (inr there)) in
    omega (arith, length-append (f x) (flat_map f xs), sum_by-cons h x xs, each x (inl refl), rest)

pub sum_of_fives : {A : Type 0} → (h : A → ℕ) (xs : List A) → sum_by (λ x. 5 * h x) xs ≡ 5 * sum_by h xs
sum_of_fives h [] = refl
sum_of_fives h (x ∷ xs) =
    omega (arith, sum_by-cons (λ y. 5 * h y) x xs, sum_by-cons h x xs, sum_of_fives h xs)
