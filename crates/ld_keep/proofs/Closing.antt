-- The file that is left once its last gate is closed.
use Rattle.std.proofs.Common.{◌≡◌, ℕ, ◌+◌, ◌≤◌, ◌<◌, ◌^◌, List, [], ◌∷◌, length, slice_get, Option, Some, None, false, true, ◌==◌, nat_le, sym, ap, inl, inr, ◌∙◌, arith, length-take}
use Rattle.std.proofs.lemmas.Bool.{cond-true, cond-false, cases_lt}
use Rattle.std.proofs.lemmas.Bool.Decides.{nat_tests}
use Rattle.std.proofs.lemmas.Option.{slice_get_past}
use Rattle.ld_keep.specs.Disk.{overwritten}
use Rattle.ld_keep.specs.Kept.{reach, last_gate}
use Rattle.ld_keep.specs.Opening.{HasLastGate, with_closed, with_closed_gate, with_cleared_length}
use Rattle.ld_keep.proofs.Files.{last_gate-within}

differ : (n m : ℕ) → (n ≡ m → ⊥) → (n == m) ≡ false
differ n m other = grind (arith, nat_tests)

-- the gate that stands at the place decides
closing : (file : List ℕ) (place : ℕ) (gate : Option ℕ) → last_gate file ≡ place → slice_get file place ≡ gate → with_closed_gate file ≡ with_closed place gate file
unfolding with_closed_gate
closing file place gate at byte =
    ap (λ (p : ℕ). with_closed p (slice_get file p) file) at ∙ ap (λ (g : Option ℕ). with_closed place g file) byte

-- a closed gate stays
pub closed_stays : (file : List ℕ) (place gate : ℕ) → HasLastGate place gate file → gate ≡ 0 → file ≡ with_closed_gate file
unfolding with_closed
closed_stays file place gate has closed =
    sym (closing file place (Some 0) has.at (has.byte ∙ ap Some closed))

-- an open one is closed
pub closes_open : (file : List ℕ) (place gate : ℕ) → HasLastGate place gate file → gate ≡ 1 → overwritten place (0 ∷ []) file ≡ with_closed_gate file
unfolding with_closed
closes_open file place gate has one =
    sym (closing file place (Some 1) has.at (has.byte ∙ ap Some one))

-- and so is every other one
closes_other : (file : List ℕ) (place gate : ℕ) → HasLastGate place gate file → (gate ≡ 0 → ⊥) → (gate ≡ 1 → ⊥)
    → overwritten place (0 ∷ []) (with_cleared_length place file) ≡ with_closed_gate file
unfolding with_closed
closes_other file place gate has shut other =
    sym (closing file place (Some gate) has.at has.byte
    ∙ cond-false (gate == 0) _ _ (differ gate 0 shut)
    ∙ ap (overwritten place (0 ∷ [])) (cond-false (gate == 1) _ _ (differ gate 1 other)))

too_few : (n m : ℕ) → m < n → nat_le n m ≡ false
too_few n m lt = grind (arith, nat_tests)

enough : (n m : ℕ) → n ≤ m → nat_le n m ≡ true
enough n m le = grind (arith, nat_tests)

-- where fewer than four bytes stand after it, nothing is cleared
pub closes_short : (file : List ℕ) (place gate : ℕ) → HasLastGate place gate file → (gate ≡ 0 → ⊥) → (gate ≡ 1 → ⊥) → length (reach file) < place + 5
    → overwritten place (0 ∷ []) file ≡ with_closed_gate file
unfolding with_cleared_length
closes_short file place gate has shut other few =
    ap (overwritten place (0 ∷ [])) (sym (cond-false (nat_le (place + 5) (length (reach file))) _ _ (too_few (place + 5) (length (reach file)) few)))
    ∙ closes_other file place gate has shut other

pub closes_cleared : (file : List ℕ) (place gate : ℕ) → HasLastGate place gate file → (gate ≡ 0 → ⊥) → (gate ≡ 1 → ⊥) → place + 5 ≤ length (reach file)
    → overwritten place (0 ∷ []) (overwritten (place + 1) (0 ∷ 0 ∷ 0 ∷ 0 ∷ []) file) ≡ with_closed_gate file
unfolding with_cleared_length
closes_cleared file place gate has shut other room =
    ap (overwritten place (0 ∷ [])) (sym (cond-true (nat_le (place + 5) (length (reach file))) _ _ (enough (place + 5) (length (reach file)) room)))
    ∙ closes_other file place gate has shut other

-- a file whose last gate would stand at its end is empty, and gets a gate
pub closes_empty : (file : List ℕ) (place : ℕ) → last_gate file ≡ place → length (reach file) ≤ place → overwritten place (0 ∷ []) file ≡ with_closed_gate file
unfolding with_closed
closes_empty file place at past = elim (cases_lt 0 (length file)) [
  | inl some ↦ let within = last_gate-within file some in absurd (omega (arith, at, past, within.0, within.1, length-take (2 ^ 40) file))
  | inr nothing ↦ sym (closing file place None at (slice_get_past file place (omega (arith, nothing))))
]
