-- Seats play no part in a settling: a run with another number of seats, as long as there is one and one for
-- each person, settles in as many turns, with the same sums, to the same state but for its seats.
use Rattle.std.proofs.Common.{◌≡◌, ℕ, zero, suc, ◌+◌, ◌<◌, ◌≤◌, ◌==◌, List, [], ◌∷◌, ◌++◌, map, length, sum_by, Bool, true, false, cond, Option, Some, None, option_map, refl, sym, ap, ◌∙◌, subst, length-append}
use Rattle.std.proofs.lemmas.List.{map-append, length-map}
use Rattle.std.proofs.lemmas.List.Sums.{sum_by-append, sum_by-cons}
use Rattle.ld_base.specs.Numbers.{numbers_below}
use Rattle.ld_cascade.specs.System.{System}
use Rattle.ld_cascade.specs.Settling.{Firing, Sums, sums_of, counted, plus, swept, after_sweeps, all_firings, sweep_firings}
use Rattle.ld_model.specs.Counting.{number_where}
use Rattle.ld_model.specs.declared.unit.Unit.{Unit}
use Rattle.ld_names.specs.Rules.{Site}
use Rattle.ld_firing.specs.Actions.{Doing, site_firing}
use Rattle.ld_firing.specs.RunSettling.{Settlement, settlement_after, is_quiet_after, turns_within, run_settling}
use Rattle.ld_state.specs.RunState.{RunState}
use Rattle.ld_firing.specs.RunSystem.{run_system}
use Rattle.ld_firing.specs.Seating.{IsSameButSeats, reseated, settlement_reseated}
use Rattle.ld_firing.specs.SiteWalk.{HasSeats, SiteFiring, is_due, after_visit, visit_firings, walk_firings, walk_sums, all_sites}
use Rattle.ld_firing.proofs.SeatsKept.{due_same, firing_through, visit_through, walk_through, walk_keeps_persons, walk_keeps_seats}
use Rattle.ld_firing.proofs.SeatsSweep.{sweep_walks, sweep_sums}

-- ---- walks

abbrev firing_reseated : ℕ → SiteFiring → SiteFiring
firing_reseated n f = record { before = reseated n f.before; site = f.site }

visit_firings_through : (unit : Unit) (n : ℕ) (s : RunState) (site : Site) → visit_firings unit (reseated n s) site ≡ map (firing_reseated n) (visit_firings unit s site)
visit_firings_through unit n s site =
    ap (λ b. cond b (record { before = reseated n s; site = site } ∷ []) []) (due_same unit n s site) ∙ by (is_due unit s site)
  where
    by : (b : Bool) → cond b (record { before = reseated n s; site = site } ∷ []) [] ≡ map (firing_reseated n) (cond b (record { before = s; site = site } ∷ []) [])
    by true = refl
    by false = refl

walk_firings_through : (unit : Unit) (n : ℕ) (s : RunState) (sites : List Site) → walk_firings unit (reseated n s) sites ≡ map (firing_reseated n) (walk_firings unit s sites)
walk_firings_through unit n s [] = refl
walk_firings_through unit n s (site ∷ sites) =
    ap (λ first. first ++ walk_firings unit (after_visit unit (reseated n s) site) sites) (visit_firings_through unit n s site)
    ∙ ap (λ t. map (firing_reseated n) (visit_firings unit s site) ++ walk_firings unit t sites) (visit_through unit n s site)
    ∙ ap (λ later. map (firing_reseated n) (visit_firings unit s site) ++ later) (walk_firings_through unit n (after_visit unit s site) sites)
    ∙ sym (map-append (firing_reseated n) (visit_firings unit s site) (walk_firings unit (after_visit unit s site) sites))

sum_same : (n : ℕ) (of_site : SiteFiring → ℕ) → ((f : SiteFiring) → of_site (firing_reseated n f) ≡ of_site f) → (fs : List SiteFiring) → sum_by of_site (map (firing_reseated n) fs) ≡ sum_by of_site fs
sum_same n of_site same [] = refl
sum_same n of_site same (f ∷ fs) =
    sum_by-cons of_site (firing_reseated n f) (map (firing_reseated n) fs)
    ∙ ap (λ k. k + sum_by of_site (map (firing_reseated n) fs)) (same f)
    ∙ ap (λ k. of_site f + k) (sum_same n of_site same fs)
    ∙ sym (sum_by-cons of_site f fs)

walk_sums_same : (unit : Unit) (n : ℕ) (fs : List SiteFiring) → walk_sums unit (map (firing_reseated n) fs) ≡ walk_sums unit fs
walk_sums_same unit n fs = λ i. counted (length-map fs (firing_reseated n) i) (rejected_same i) (sent_same i)
  where
    rejected_same : (walk_sums unit (map (firing_reseated n) fs)).rejected ≡ (walk_sums unit fs).rejected
    rejected_same = sum_same n (λ f. (site_firing unit f.before f.site).rejected) (λ f. ap (λ (doing : Doing). doing.rejected) (firing_through unit n f.before f.site)) fs

    sent_same : (walk_sums unit (map (firing_reseated n) fs)).sent ≡ (walk_sums unit fs).sent
    sent_same = sum_same n (λ f. (site_firing unit f.before f.site).sent) (λ f. ap (λ (doing : Doing). doing.sent) (firing_through unit n f.before f.site)) fs

-- ---- sweeps

sweep_through : (unit : Unit) (n : ℕ) (s : RunState) → HasSeats s → HasSeats (reseated n s) → swept (run_system unit) (reseated n s) ≡ reseated n (swept (run_system unit) s)
sweep_through unit n s here there =
    sweep_walks unit (reseated n s) there
    ∙ walk_through unit n s (all_sites unit s)
    ∙ ap (reseated n) (sym (sweep_walks unit s here))

sweep_sums_same : (unit : Unit) (n : ℕ) (s : RunState) → HasSeats s → HasSeats (reseated n s) → sums_of (run_system unit) (sweep_firings (run_system unit) (reseated n s)) ≡ sums_of (run_system unit) (sweep_firings (run_system unit) s)
sweep_sums_same unit n s here there =
    sweep_sums unit (reseated n s) there
    ∙ ap (walk_sums unit) (walk_firings_through unit n s (all_sites unit s))
    ∙ walk_sums_same unit n (walk_firings unit s (all_sites unit s))
    ∙ sym (sweep_sums unit s here)

sweep_keeps_persons : (unit : Unit) (s : RunState) → HasSeats s → (swept (run_system unit) s).persons ≡ s.persons
sweep_keeps_persons unit s here = ap (λ (t : RunState). t.persons) (sweep_walks unit s here) ∙ walk_keeps_persons unit s (all_sites unit s)

sweep_keeps_seats : (unit : Unit) (s : RunState) → HasSeats s → (swept (run_system unit) s).seats ≡ s.seats
sweep_keeps_seats unit s here = ap (λ (t : RunState). t.seats) (sweep_walks unit s here) ∙ walk_keeps_seats unit s (all_sites unit s)

-- There are seats still.
still : (s t : RunState) → t.seats ≡ s.seats → t.persons ≡ s.persons → HasSeats s → HasSeats t
still s t seats persons here = record {
  seat = subst (λ k. 0 < k) (sym seats) here.seat;
  seated = subst (λ k. length t.persons ≤ k) (sym seats) (subst (λ xs. length xs ≤ s.seats) (sym persons) here.seated);
}

still_reseated : (n : ℕ) (s t : RunState) → t.persons ≡ s.persons → HasSeats (reseated n s) → HasSeats (reseated n t)
still_reseated n s t persons there = still (reseated n s) (reseated n t) refl persons there

pub sweeps_keep_seats : (unit : Unit) (s : RunState) (k : ℕ) → HasSeats s → HasSeats (after_sweeps (run_system unit) s k)
unfolding after_sweeps
sweeps_keep_seats unit s zero here = here
sweeps_keep_seats unit s (suc k) here =
    let before = sweeps_keep_seats unit s k here in
    still (after_sweeps (run_system unit) s k) (swept (run_system unit) (after_sweeps (run_system unit) s k)) (sweep_keeps_seats unit (after_sweeps (run_system unit) s k) before) (sweep_keeps_persons unit (after_sweeps (run_system unit) s k) before) before

sweeps_keep_reseated : (unit : Unit) (n : ℕ) (s : RunState) (k : ℕ) → HasSeats s → HasSeats (reseated n s) → HasSeats (reseated n (after_sweeps (run_system unit) s k))
unfolding after_sweeps
sweeps_keep_reseated unit n s zero here there = there
sweeps_keep_reseated unit n s (suc k) here there =
    still_reseated n (after_sweeps (run_system unit) s k) (swept (run_system unit) (after_sweeps (run_system unit) s k)) (sweep_keeps_persons unit (after_sweeps (run_system unit) s k) (sweeps_keep_seats unit s k here)) (sweeps_keep_reseated unit n s k here there)

-- Sweeps lead to the same states but for their seats.
pub sweeps_through : (unit : Unit) (n : ℕ) (s : RunState) (k : ℕ) → HasSeats s → HasSeats (reseated n s) → after_sweeps (run_system unit) (reseated n s) k ≡ reseated n (after_sweeps (run_system unit) s k)
unfolding after_sweeps
sweeps_through unit n s zero here there = refl
sweeps_through unit n s (suc k) here there =
    ap (swept (run_system unit)) (sweeps_through unit n s k here there)
    ∙ sweep_through unit n (after_sweeps (run_system unit) s k) (sweeps_keep_seats unit s k here) (sweeps_keep_reseated unit n s k here there)

turn_sums_same : (unit : Unit) (n : ℕ) (s : RunState) (k : ℕ) → HasSeats s → HasSeats (reseated n s) → sums_of (run_system unit) (sweep_firings (run_system unit) (after_sweeps (run_system unit) (reseated n s) k)) ≡ sums_of (run_system unit) (sweep_firings (run_system unit) (after_sweeps (run_system unit) s k))
turn_sums_same unit n s k here there =
    ap (λ t. sums_of (run_system unit) (sweep_firings (run_system unit) t)) (sweeps_through unit n s k here there)
    ∙ sweep_sums_same unit n (after_sweeps (run_system unit) s k) (sweeps_keep_seats unit s k here) (sweeps_keep_reseated unit n s k here there)

sums_append : (y : System) (before after : List (Firing y)) → sums_of y (before ++ after) ≡ plus (sums_of y before) (sums_of y after)
sums_append y before after = λ i. counted (length-append before after i) (sum_by-append (λ f. y.rejected f.before f.site) before after i) (sum_by-append (λ f. y.sent f.before f.site) before after i)

pub sums_on : (y : System) (s : y.Situation) (k : ℕ) → sums_of y (all_firings y s (suc k)) ≡ plus (sums_of y (all_firings y s k)) (sums_of y (sweep_firings y (after_sweeps y s k)))
unfolding all_firings
sums_on y s k = sums_append y (all_firings y s k) (sweep_firings y (after_sweeps y s k))

none_same : (unit : Unit) (n : ℕ) (s : RunState) → sums_of (run_system unit) (all_firings (run_system unit) (reseated n s) zero) ≡ sums_of (run_system unit) (all_firings (run_system unit) s zero)
unfolding all_firings
none_same unit n s = refl

sums_same : (unit : Unit) (n : ℕ) (s : RunState) (k : ℕ) → HasSeats s → HasSeats (reseated n s) → sums_of (run_system unit) (all_firings (run_system unit) (reseated n s) k) ≡ sums_of (run_system unit) (all_firings (run_system unit) s k)
sums_same unit n s zero here there = none_same unit n s
sums_same unit n s (suc k) here there =
    sums_on (run_system unit) (reseated n s) k
    ∙ ap (λ before. plus before (sums_of (run_system unit) (sweep_firings (run_system unit) (after_sweeps (run_system unit) (reseated n s) k)))) (sums_same unit n s k here there)
    ∙ ap (plus (sums_of (run_system unit) (all_firings (run_system unit) s k))) (turn_sums_same unit n s k here there)
    ∙ sym (sums_on (run_system unit) s k)

-- ---- settlings

turns_same : (unit : Unit) (n : ℕ) (s : RunState) (budget : ℕ) → HasSeats s → HasSeats (reseated n s) → turns_within (run_system unit) (reseated n s) budget ≡ turns_within (run_system unit) s budget
turns_same unit n s budget here there = ap (λ test. number_where test (numbers_below (budget + 1))) (λ i. λ k. quiet_same k i)
  where
    quiet_same : (k : ℕ) → is_quiet_after (run_system unit) (reseated n s) k ≡ is_quiet_after (run_system unit) s k
    quiet_same k = ap (λ (sums : Sums). sums.fired == 0) (turn_sums_same unit n s k here there)

settlement_same : (unit : Unit) (n : ℕ) (s : RunState) (turns : ℕ) → HasSeats s → HasSeats (reseated n s) → settlement_after unit (reseated n s) turns ≡ settlement_reseated n (settlement_after unit s turns)
settlement_same unit n s turns here there = λ i. record {
  turns = turns;
  sums = sums_same unit n s turns here there i;
  state = sweeps_through unit n s turns here there i;
}

-- A run with another number of seats settles in the same way.
pub settling_reseated : (unit : Unit) (n : ℕ) (s : RunState) → HasSeats s → HasSeats (reseated n s) → run_settling unit (reseated n s) ≡ option_map (settlement_reseated n) (run_settling unit s)
unfolding run_settling
settling_reseated unit n s here there =
    ap (option_map (settlement_after unit (reseated n s))) (turns_same unit n s unit.turns here there)
    ∙ by (turns_within (run_system unit) s unit.turns)
  where
    by : (turns : Option ℕ) → option_map (settlement_after unit (reseated n s)) turns ≡ option_map (settlement_reseated n) (option_map (settlement_after unit s) turns)
    by None = refl
    by (Some turns) = ap Some (settlement_same unit n s turns here there)

sweeps_keep : (unit : Unit) (s : RunState) (k : ℕ) → HasSeats s → ((after_sweeps (run_system unit) s k).seats ≡ s.seats) × ((after_sweeps (run_system unit) s k).persons ≡ s.persons)
unfolding after_sweeps
sweeps_keep unit s zero here = (refl, refl)
sweeps_keep unit s (suc k) here =
    let before = sweeps_keep_seats unit s k here in
    let kept = sweeps_keep unit s k here in
    (sweep_keeps_seats unit (after_sweeps (run_system unit) s k) before ∙ kept.0, sweep_keeps_persons unit (after_sweeps (run_system unit) s k) before ∙ kept.1)

-- A settling leaves seats and persons as they are.
pub settling_keeps : (unit : Unit) (s : RunState) (x : Settlement) → HasSeats s → run_settling unit s ≡ Some x → (x.state.seats ≡ s.seats) × (x.state.persons ≡ s.persons)
unfolding run_settling
settling_keeps unit s x here is = by (turns_within (run_system unit) s unit.turns) is
  where
    by : (turns : Option ℕ) → option_map (settlement_after unit s) turns ≡ Some x → (x.state.seats ≡ s.seats) × (x.state.persons ≡ s.persons)
    by None none = absurd (cc)
    by (Some turns) some =
        let same : settlement_after unit s turns ≡ x = cc in
        let kept = sweeps_keep unit s turns here in
        (ap (λ (y : Settlement). y.state.seats) (sym same) ∙ kept.0, ap (λ (y : Settlement). y.state.persons) (sym same) ∙ kept.1)

-- Runs that agree on all but their seats are one run with two numbers of seats.
pub same_reseated : (s t : RunState) → IsSameButSeats s t → t ≡ reseated t.seats s
same_reseated s t same = λ i. record {
  seats = t.seats;
  persons = sym same.persons i;
  outbox = sym same.outbox i;
  cells = λ name. sym (same.cells name) i;
}

-- Two runs of a unit that agree on all but their seats settle alike: in as many turns, with the same sums, to
-- states that again agree on all but their seats; or both pass the budget.
pub seats_play_no_part : (unit : Unit) (s t : RunState) → IsSameButSeats s t → HasSeats s → HasSeats t → run_settling unit t ≡ option_map (settlement_reseated t.seats) (run_settling unit s)
seats_play_no_part unit s t same here there =
    ap (run_settling unit) (same_reseated s t same)
    ∙ settling_reseated unit t.seats s here (subst HasSeats (same_reseated s t same) there)
