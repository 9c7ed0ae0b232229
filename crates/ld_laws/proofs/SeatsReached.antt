-- A run that has seats has one for each person, in each state that it comes to.
use Rattle.std.proofs.Common.{◌≡◌, refl, subst, ◌∙◌, ℕ, ℤ, ◌<◌, arith, Bool, true, false, Some, is_some, if◌then◌else◌}
use Rattle.ld_value.specs.Datum.{moment_datum}
use Rattle.ld_model.specs.declared.unit.Unit.{Unit}
use Rattle.ld_expr.specs.Owners.{of_person}
use Rattle.ld_expr.specs.Seen.{opened_cell}
use Rattle.ld_state.specs.GlobalValues.{GlobalValues}
use Rattle.ld_state.specs.RunState.{RunState, with_cell}
use Rattle.ld_firing.specs.SiteWalk.{HasSeats}
use Rattle.ld_firing.proofs.LawsKept.{settling_keeps}
use Rattle.ld_firing.proofs.SeatsKept.{seats_kept}
use Rattle.ld_admission.specs.Commands.{Admitted, enrols, assigns, drops, starts, opens, completes, sets, clears, gets, shows_tree, shows_outbox, reports, ticks, shows_next}
use Rattle.ld_run.specs.Changes.{directly_changed}
use Rattle.ld_run.specs.Reached.{IsReached, made, left_by}
use Rattle.ld_run.proofs.LawsKept.{IsLasting, step_keeps}
use Rattle.ld_run.proofs.SeatsOfChecks.{Each}
use Rattle.ld_run.proofs.SeatsOfSteps.{KeepsSeats, step_keeps as step_keeps_seats}
use Rattle.ld_laws.specs.RunLaws.{ComesTo}

-- No direct change takes a seat away or adds one.
changed_seats : (unit : Unit) (store : GlobalValues) (s : RunState) (moment : ℤ) (command : Admitted) → (directly_changed unit store s moment command).seats ≡ s.seats
changed_seats unit store s moment (enrols name) = refl
changed_seats unit store s moment (assigns p role) = refl
changed_seats unit store s moment (drops p role) = refl
changed_seats unit store s moment starts = refl
changed_seats unit store s moment (opens p thing) = by (is_some (s.cells (opened_cell thing (of_person p))))
  where
    by : (b : Bool) → (if b then s else with_cell s (opened_cell thing (of_person p)) (Some (moment_datum moment))).seats ≡ s.seats
    by true = refl
    by false = refl
changed_seats unit store s moment (completes p thing) = refl
changed_seats unit store s moment (sets cell value) = refl
changed_seats unit store s moment (clears cell) = refl
changed_seats unit store s moment (gets cell) = refl
changed_seats unit store s moment (shows_tree p) = refl
changed_seats unit store s moment (shows_outbox p) = refl
changed_seats unit store s moment reports = refl
changed_seats unit store s moment ticks = refl
changed_seats unit store s moment shows_next = refl

abbrev HasMany : ℕ → RunState → Type 0
HasMany n s = s.seats ≡ n

seats_last : (unit : Unit) (n : ℕ) → IsLasting unit (HasMany n)
seats_last unit n = record {
  settles = λ s x runs is many. settling_keeps unit (HasMany n) (λ t site fired here. seats_kept unit t site ∙ here) s x is many;
  begins = λ s store moment many. many;
  changes = λ s t store moment command fit starting before many. changed_seats unit store t moment command ∙ many;
}

reached_has_seats : (unit : Unit) (s : RunState) → IsReached unit s → 0 < s.seats → HasSeats s
reached_has_seats unit s (made seats store moment) seat = record { seat = seat; seated = omega arith }
reached_has_seats unit s (left_by before store moment asked d reached is) seat =
    let same : d.state.seats ≡ before.seats = step_keeps unit (HasMany before.seats) (seats_last unit before.seats) before store moment asked d is refl in
    let seats = reached_has_seats unit before reached (subst (λ n. 0 < n) same seat) in
    (subst (Each (KeepsSeats before)) is (step_keeps_seats unit before store moment asked seats)).0

pub has_seats : (unit : Unit) (s : RunState) → ComesTo unit s → HasSeats s
has_seats unit s comes = reached_has_seats unit s comes.reached comes.seats
