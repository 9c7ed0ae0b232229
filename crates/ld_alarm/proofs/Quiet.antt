-- A run in which no site is due settles at once; where some site is due, the first sweep fires.
use Rattle.std.proofs.Common.{◌≡◌, refl, sym, ap, subst, ◌∙◌, ℕ, ◌+◌, ◌<◌, ◌==◌, List, [], ◌∷◌, ◌++◌, length, map, cond, inl, inr, Option, Some, None, Bool, true, false, ◌||◌, option_map, add-one, arith}
use Rattle.std.proofs.lemmas.Bool.{eqb-true}
use Rattle.std.specs.List.{list_any, position_from, range_with_len}
use Rattle.ld_base.specs.Numbers.{numbers_below}
use Rattle.ld_value.proofs.Choices.{bool_cases}
use Rattle.ld_model.specs.Counting.{number_where}
use Rattle.ld_model.specs.declared.unit.Unit.{Unit}
use Rattle.ld_names.specs.Rules.{Site}
use Rattle.ld_state.specs.RunState.{RunState}
use Rattle.ld_state.proofs.Elements.{none_is_some, some_same}
use Rattle.ld_cascade.specs.Settling.{after_sweeps, all_firings, sweep_firings}
use Rattle.ld_firing.specs.Actions.{site_firing}
use Rattle.ld_firing.specs.RunSettling.{Settlement, is_quiet_after, run_settling, settlement_after, no_settling, turns_within}
use Rattle.ld_firing.specs.RunSystem.{run_system}
use Rattle.ld_firing.specs.SiteWalk.{HasSeats, is_due, walk_firings, all_sites, with_number}
use Rattle.ld_firing.proofs.Found.{found_by}
use Rattle.ld_firing.proofs.SeatsSweep.{sweep_fires}
use Rattle.ld_firing.proofs.Turns.{turns_of_settling}
use Rattle.ld_alarm.specs.NextAlarm.{some_due}

quiet_walk : (unit : Unit) (s : RunState) (sites : List Site) → list_any (is_due unit s) sites ≡ false
    → walk_firings unit s sites ≡ []
quiet_walk unit s [] none = refl
quiet_walk unit s (site ∷ sites) none = by (is_due unit s site) none (quiet_walk unit s sites)
  where
    by : (due : Bool) → due || list_any (is_due unit s) sites ≡ false
        → (list_any (is_due unit s) sites ≡ false → walk_firings unit s sites ≡ [])
        → cond due (record { before = s; site = site } ∷ []) [] ++ walk_firings unit (cond due (site_firing unit s site).state s) sites ≡ []
    by true some rest = absurd (cc)
    by false others rest = rest others

busy_walk : (unit : Unit) (s : RunState) (sites : List Site) → list_any (is_due unit s) sites ≡ true
    → walk_firings unit s sites ≡ [] → ⊥
busy_walk unit s [] some = absurd (cc)
busy_walk unit s (site ∷ sites) some = by (is_due unit s site) some (busy_walk unit s sites)
  where
    by : (due : Bool) → due || list_any (is_due unit s) sites ≡ true
        → (list_any (is_due unit s) sites ≡ true → walk_firings unit s sites ≡ [] → ⊥)
        → cond due (record { before = s; site = site } ∷ []) [] ++ walk_firings unit (cond due (site_firing unit s site).state s) sites ≡ [] → ⊥
    by true here rest none = absurd (cc)
    by false others rest none = rest others none

nothing_mapped : {A B : Type 0} → (f : A → B) (xs : List A) → map f xs ≡ [] → xs ≡ []
nothing_mapped f [] none = refl
nothing_mapped f (x ∷ xs) none = absurd (cc)

pub settles_at_once : (unit : Unit) (s : RunState) → HasSeats s → some_due unit s ≡ false
    → run_settling unit s ≡ Some (no_settling s)
unfolding run_settling after_sweeps all_firings
settles_at_once unit s seats none =
    let quiet : sweep_firings (run_system unit) s ≡ [] =
    sweep_fires unit s seats ∙ ap (map (with_number unit s.seats)) (quiet_walk unit s (all_sites unit s) none) in
    ap (option_map (settlement_after unit s))
    (turns_of_settling (run_system unit) s unit.turns 0
    (record { within = omega arith; before = λ n less. absurd (omega (arith, less)); quiet = quiet }))

pub first_sweep_fires : (unit : Unit) (s : RunState) → HasSeats s → some_due unit s ≡ true
    → sweep_firings (run_system unit) s ≡ [] → ⊥
first_sweep_fires unit s seats some none =
    busy_walk unit s (all_sites unit s) some
    (nothing_mapped (with_number unit s.seats) (walk_firings unit s (all_sites unit s)) (sym (sweep_fires unit s seats) ∙ none))

-- ---- where the first sweep fires, the settling has a turn

not_at_once : (test : ℕ → Bool) (n k : ℕ) → test 0 ≡ false → number_where test (numbers_below (n + 1)) ≡ Some k → 0 < k
not_at_once test n k fails is =
    let cut : cond (test 0) (Some 0) (position_from test 1 (range_with_len 1 n)) ≡ Some k = rw (add-one n) at is in
    let later : position_from test 1 (range_with_len 1 n) ≡ Some k = rw fails at cut in
    omega (arith, (found_by test (range_with_len 1 n) 1 k later).sum)

none_counted : {A : Type 0} → (xs : List A) → (xs ≡ [] → ⊥) → (length xs == 0) ≡ false
none_counted [] some = absurd (some refl)
none_counted (x ∷ xs) some = elim (bool_cases (length (x ∷ xs) == 0)) [
  | inl empty ↦ let none = eqb-true (length (x ∷ xs)) 0 empty in absurd (omega (arith, none))
  | inr counted ↦ counted
]

pub has_a_turn : (unit : Unit) (s : RunState) (x : Settlement) → run_settling unit s ≡ Some x
    → (sweep_firings (run_system unit) s ≡ [] → ⊥) → 0 < x.turns
unfolding run_settling after_sweeps
has_a_turn unit s x settled some = by (turns_within (run_system unit) s unit.turns) refl settled
  where
    by : (found : Option ℕ) → turns_within (run_system unit) s unit.turns ≡ found
        → option_map (settlement_after unit s) found ≡ Some x → 0 < x.turns
    by None is told = none_is_some told
    by (Some turns) is told =
        let same : turns ≡ x.turns = ap (λ (done : Settlement). done.turns) (some_same told) in
        subst (λ n. 0 < n) same (not_at_once (is_quiet_after (run_system unit) s) unit.turns turns
        (none_counted (sweep_firings (run_system unit) s) some) is)
