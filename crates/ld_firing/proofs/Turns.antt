-- That the number of turns is the one of ld_cascade's settling, and that there is none where that passes its
-- budget.
use Rattle.std.proofs.Common.{◌≡◌, ◌≢◌, refl, sym, ap, ◌∙◌, ℕ, zero, suc, ◌+◌, ◌<◌, ◌≤◌, ◌==◌, List, [], ◌∷◌, length, Some, None, Bool, true, false, cond, nat_eq, arith}
use Rattle.std.proofs.lemmas.Bool.{eqb-true, eq-eqb}
use Rattle.std.specs.List.{position_from, range_with_len}
use Rattle.ld_cascade.specs.System.{System}
use Rattle.ld_cascade.specs.Settling.{Settles, PassesBudget, Firing, sweep_firings, after_sweeps}
use Rattle.ld_firing.specs.RunSettling.{is_quiet_after, turns_within}

apart : false ≡ true → ⊥
apart p = absurd (cc)

other_than : (i k : ℕ) → nat_eq i k ≡ false → i ≢ k
other_than i k other is = apart (sym other ∙ eq-eqb i k is)

-- A number up to k that does not pass, where k does, is less.
falls_short : (test : ℕ → Bool) (i k : ℕ) → i ≤ k → test i ≡ false → test k ≡ true → i + 1 ≤ k
falls_short test i k from fails passes = by (nat_eq i k) refl
  where
    by : (b : Bool) → nat_eq i k ≡ b → i + 1 ≤ k
    by true same = absurd (apart (sym fails ∙ ap test (eqb-true i k same) ∙ passes))
    by false other = omega (arith, from, other_than i k other)

-- The first number from i on that passes the test, where it is below i + n.
pub first_found : (test : ℕ → Bool) (n i k : ℕ) → i ≤ k → k < i + n → ((j : ℕ) → i ≤ j → j < k → test j ≡ false) → test k ≡ true → position_from test i (range_with_len i n) ≡ Some k
first_found test zero i k from below others passes = absurd (omega (arith, from, below))
first_found test (suc n) i k from below others passes =
    by (λ later. first_found test n (i + 1) k later (omega (arith, below)) (λ j more less. others j (omega (arith, more)) less) passes) (test i) refl
  where
    same : test i ≡ true → (b : Bool) → nat_eq i k ≡ b → Some i ≡ Some k
    same is true equal = ap Some (eqb-true i k equal)
    same is false other = absurd (apart (sym (others i (omega arith) (omega (arith, from, other_than i k other))) ∙ is))

    by : (i + 1 ≤ k → position_from test (i + 1) (range_with_len (i + 1) n) ≡ Some k) → (b : Bool) → test i ≡ b → cond b (Some i) (position_from test (i + 1) (range_with_len (i + 1) n)) ≡ Some k
    by on true is = same is (nat_eq i k) refl
    by on false fails = on (falls_short test i k from fails passes)

-- None is found where none passes.
pub none_found : (test : ℕ → Bool) (n i : ℕ) → ((j : ℕ) → i ≤ j → j < i + n → test j ≡ false) → position_from test i (range_with_len i n) ≡ None
none_found test zero i others = refl
none_found test (suc n) i others =
    ap (λ b. cond b (Some i) (position_from test (i + 1) (range_with_len (i + 1) n))) (others i (omega arith) (omega arith))
    ∙ none_found test n (i + 1) (λ j more less. others j (omega (arith, more)) (omega (arith, less)))

-- ---- settlings

quiet : (A : Type 0) (xs : List A) → xs ≡ [] → (length xs == 0) ≡ true
quiet A xs none = ap (λ ys. length ys == 0) none

busy : (A : Type 0) (xs : List A) → (xs ≡ [] → ⊥) → (length xs == 0) ≡ false
busy A [] some = absurd (some refl)
busy A (x ∷ xs) some = by (length (x ∷ xs) == 0) refl
  where
    by : (b : Bool) → (length (x ∷ xs) == 0) ≡ b → (length (x ∷ xs) == 0) ≡ false
    by true none = absurd (omega (arith, eqb-true (length (x ∷ xs)) 0 none))
    by false is = is

-- A settling of this many turns.
pub turns_of_settling : (y : System) (s : y.Situation) (budget turns : ℕ) → Settles y s budget turns → turns_within y s budget ≡ Some turns
turns_of_settling y s budget turns settles =
    first_found (is_quiet_after y s) (budget + 1) 0 turns (omega arith) (omega (arith, settles.within))
    (λ j more less. busy (Firing y) (sweep_firings y (after_sweeps y s j)) (settles.before j less))
    (quiet (Firing y) (sweep_firings y (after_sweeps y s turns)) settles.quiet)

-- A settling that passes its budget.
pub no_turns : (y : System) (s : y.Situation) (budget : ℕ) → PassesBudget y s budget → turns_within y s budget ≡ None
no_turns y s budget passes =
    none_found (is_quiet_after y s) (budget + 1) 0
    (λ j more less. busy (Firing y) (sweep_firings y (after_sweeps y s j)) (passes j (omega (arith, less))))
