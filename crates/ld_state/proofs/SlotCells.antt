-- Which cell stands in a slot.
use Rattle.std.proofs.Common.{◌≡◌, refl, sym, ap, ◌∙◌, ℕ, zero, suc, ◌+◌, ◌*◌, ◌<◌, ◌≤◌, ◌/◌, ◌%◌, true, false, get_or, mul-le-mul_right, List, ◌++◌, map, flat_map, length, slice_get, Option, Some, None, arith, suc-mul}
use Rattle.std.proofs.lemmas.List.{length-map}
use Rattle.std.proofs.lemmas.Bool.{eqb-false, eqb-true}
use Rattle.std.proofs.lemmas.Nat.{div-add-mod'}
use Rattle.std.proofs.Math.Nat.{mod-lt, zero-mul, zero-add}
use Rattle.std.proofs.lemmas.Option.{slice_get-get_or, slice_get-map, slice_get_past}
use Rattle.std.specs.Bool.{◌==◌}
use Rattle.std.specs.List.{range_with_len}
use Rattle.std.specs.Option.{option_map}
use Rattle.ld_model.specs.declared.cell.CellName.{CellName}
use Rattle.ld_state.specs.Layout.{cell_for}
use Rattle.ld_state.proofs.Joined.{before_end, behind}
use Rattle.ld_state.proofs.Slotting.{count_from}

module _ (own : List CellName) where
  abbrev cells_of : ℕ → List CellName
  cells_of p = map (cell_for p) own

  abbrev cells_from : ℕ → ℕ → List CellName
  cells_from a n = flat_map cells_of (range_with_len a n)

  -- The cell of one of the persons from one on.
  pub of_person_at : (q n a k place : ℕ) → q < n → k < length own → place ≡ q * length own + k
      → slice_get (cells_from a n) place ≡ option_map (cell_for (a + q)) (slice_get own k)
  of_person_at q zero a k place below within is = absurd (omega (arith, below))
  of_person_at zero (suc n) a k place below within is =
      let first : place ≡ k = omega (arith, is, zero-mul (length own)) in
      before_end (cells_of a) (cells_from (a + 1) n) place (omega (arith, within, first, length-map own (cell_for a)))
      ∙ ap (slice_get (cells_of a)) first
      ∙ slice_get-map (cell_for a) own k
      ∙ ap (λ p. option_map (cell_for p) (slice_get own k)) (omega arith)
  of_person_at (suc q) (suc n) a k place below within is =
      behind (cells_of a) (cells_from (a + 1) n) (q * length own + k) place
      (omega (arith, is, suc-mul q (length own), length-map own (cell_for a)))
      ∙ of_person_at q n (a + 1) k (q * length own + k) (omega (arith, below)) within refl
      ∙ ap (λ p. option_map (cell_for p) (slice_get own k)) (omega arith)

  -- The place among those of all persons tells the person, and the place among the person's.
  pub own_stands : (n place : ℕ) (first : CellName) → 0 < length own → place / length own < n
      → Some (cell_for (place / length own) (get_or own (place % length own) first)) ≡ slice_get (cells_from 0 n) place
  own_stands n place first some below =
      let within : place % length own < length own = mod-lt place some in
      sym (of_person_at (place / length own) n 0 (place % length own) place below within (sym (div-add-mod' place (length own)))
      ∙ ap (λ p. option_map (cell_for p) (slice_get own (place % length own))) (zero-add (place / length own))
      ∙ ap (option_map (cell_for (place / length own))) (slice_get-get_or own (place % length own) first within))

  -- Past the last person's none stands.
  pub none_past : (n place : ℕ) → n * length own ≤ place → None ≡ slice_get (cells_from 0 n) place
  none_past n place past =
      sym (slice_get_past (cells_from 0 n) place (omega (arith, count_from own n 0, past)))

  pub past_last : (n place : ℕ) → n ≤ place / length own → n * length own ≤ place
  past_last n place past =
      let most : n * length own ≤ place / length own * length own = mul-le-mul_right (length own) past in
      omega (arith, most, div-add-mod' place (length own))

pub no_length : (xs : List CellName) → (length xs == 0) ≡ true → length xs ≡ 0
no_length xs is = eqb-true (length xs) 0 is

pub some_length : (xs : List CellName) → (length xs == 0) ≡ false → 0 < length xs
some_length xs is = omega (arith, eqb-false (length xs) 0 is)
