-- What a tick does before the next alarm of a run, and at it; and that a run waits for it after each `next`.
use Rattle.std.proofs.Common.{◌≡◌, refl, sym, ap, ap₂, subst, ◌∙◌, ℕ, ℤ, pos, ◌+ℤ◌, ◌≤ℤ◌, ◌⊎◌, inl, inr, ◌<◌, ◌+◌, Option, Some, None, Result, Ok, Err, ok_or, Bool, true, false, not, is_some, option_map, unwrap_or, int_lt, int_le, arith}
use mathlib.Core.Path.{fun_ext}
use Rattle.jiff_core.proofs.SignedLemmas.{signed_arith}
use Rattle.ld_base.specs.Maybe.{◌>>=◌}
use Rattle.ld_cascade.specs.Settling.{plus}
use Rattle.ld_value.specs.Datum.{Datum, moment_datum}
use Rattle.ld_value.proofs.Choices.{bool_cases}
use Rattle.ld_model.specs.Cells.{put_cell}
use Rattle.ld_model.specs.declared.cell.CellName.{CellName}
use Rattle.ld_model.specs.declared.cell.CellName.TheVariants.{Prop, Vis, Member, Chosen, Opened, ActOpened, Started, Mark, Now, Roster}
use Rattle.ld_model.specs.declared.unit.Unit.{Unit}
use Rattle.ld_lines.specs.declared.command.RunCommand.{RunCommand}
use Rattle.ld_lines.specs.declared.command.RunCommand.TheVariants.{Tick, Next}
use Rattle.ld_refs.specs.Checks.{IsValid}
use Rattle.ld_expr.specs.Seen.{moment_of_value}
use Rattle.ld_state.specs.GlobalValues.{GlobalValues}
use Rattle.ld_state.specs.RunState.{RunState}
use Rattle.ld_state.proofs.Elements.{different}
use Rattle.ld_firing.specs.RunSettling.{Settlement, no_settling, run_settling}
use Rattle.ld_firing.specs.SiteWalk.{HasSeats}
use Rattle.ld_alarm.specs.Alarm.{first_after}
use Rattle.ld_alarm.specs.Later.{IsBefore}
use Rattle.ld_alarm.specs.NextAlarm.{next_alarm, some_due}
use Rattle.ld_alarm.proofs.Moments.{found_later}
use Rattle.ld_alarm.proofs.Quiet.{first_sweep_fires, has_a_turn, settles_at_once}
use Rattle.ld_alarm.proofs.Ticks.{due_at_alarm, none_due_before}
use Rattle.ld_sharing.specs.Globals.{giving_back, store_says, taking_in}
use Rattle.ld_sharing.proofs.KeysSaid.{said_by}
use Rattle.ld_sharing.proofs.UrisDiffer.{uris_differ}
use Rattle.ld_admission.specs.Checks.{admitted, in_time, is_started, last_moment, running}
use Rattle.ld_admission.specs.Commands.{Admitted, ticks, shows_next}
use Rattle.ld_admission.specs.Refusals.{Refusal, MomentBack, NotStarted, TurnBudget, ◌>>◌, refuse_if}
use Rattle.ld_run.specs.Reached.{IsReached, left_by}
use Rattle.ld_run.specs.RunStep.{DoneCommand, at_moment, done_by, open_for_it, run_step, settled, settled_after}
use Rattle.ld_run.proofs.LawsKept.{begun}
use Rattle.ld_run.proofs.SeatsOfChecks.{Each, each_bound, each_then}
use Rattle.ld_run.proofs.SeatsOfSteps.{KeepsSeats, step_keeps}
use Rattle.ld_run.proofs.StepStages.{first_refused, is_done, step_of_admitted}
use Rattle.ld_world.proofs.LawsReplies.{moments_never_go_back}
use Rattle.ld_laws.specs.AlarmLaws.{HasItsValues, IsAtRest, IsWaiting}
use Rattle.ld_laws.specs.RunLaws.{ComesTo}
use Rattle.ld_laws.proofs.LawsOpenings.{step_leaves_start}
use Rattle.ld_laws.proofs.LawsRest.{reached_rests}
use Rattle.ld_laws.proofs.LawsUnmoved.{stages_of}
use Rattle.ld_laws.proofs.NamesReached.{reached_names}
use Rattle.ld_laws.proofs.SeatsReached.{has_seats}

-- ---- the alarm

alarm_is : (unit : Unit) (s : RunState) (now : ℤ) → s.cells Now ≡ Some (moment_datum now)
    → next_alarm unit s ≡ first_after now (λ z. some_due unit (at_moment s z))
alarm_is unit s now dated =
    ap (λ value. moment_of_value value >>= λ at. first_after at (λ z. some_due unit (at_moment s z))) dated

pub alarm_is_later : (unit : Unit) (s : RunState) (now alarm : ℤ) → s.cells Now ≡ Some (moment_datum now)
    → next_alarm unit s ≡ Some alarm → ((now +ℤ pos 1) ≤ℤ alarm) × (alarm ≤ℤ pos 253402300799)
alarm_is_later unit s now alarm dated is =
    let found = found_later now (λ z. some_due unit (at_moment s z)) alarm (sym (alarm_is unit s now dated) ∙ is) in
    (found.later, found.last)

-- ---- the state that a tick finds

-- The moment is no value that the store has.
dated_values : (unit : Unit) (store : GlobalValues) (s : RunState) (moment : ℤ)
    → taking_in unit store (at_moment s moment) ≡ at_moment (taking_in unit store s) moment
dated_values unit store s moment = λ i. record (at_moment s moment) { cells = λ cell. by cell i }
  where
    by : (cell : CellName)
        → unwrap_or (store_says unit store s.persons cell) (put_cell s.cells Now (Some (moment_datum moment)) cell)
        ≡ put_cell (λ name. unwrap_or (store_says unit store s.persons name) (s.cells name)) Now (Some (moment_datum moment)) cell
    by (Prop p owner) = refl
    by (Vis t p) = refl
    by (Member r p) = refl
    by (Chosen t owner) = refl
    by (Opened t owner) = refl
    by (ActOpened t) = refl
    by Started = refl
    by (Mark r owner) = refl
    by Now = refl
    by Roster = refl

-- A run is as it was where its own moment is put to it.
same_moment : (s : RunState) (now : ℤ) → s.cells Now ≡ Some (moment_datum now) → at_moment s now ≡ s
same_moment s now dated = λ i. record s { cells = λ cell. by cell i }
  where
    by : (cell : CellName) → put_cell s.cells Now (Some (moment_datum now)) cell ≡ s.cells cell
    by (Prop p owner) = refl
    by (Vis t p) = refl
    by (Member r p) = refl
    by (Chosen t owner) = refl
    by (Opened t owner) = refl
    by (ActOpened t) = refl
    by Started = refl
    by (Mark r owner) = refl
    by Now = sym dated
    by Roster = refl

-- ---- a tick

module _ (unit : Unit) (store : GlobalValues) (s : RunState) (now : ℤ) (waits : IsWaiting unit store now s) (moment : ℤ)
    (low : now ≤ℤ moment) where
  last_is : last_moment s ≡ now
  last_is = ap (λ (value : Option Datum). unwrap_or (moment_of_value value) (pos 0)) waits.dated

  not_early : int_lt moment (last_moment s) ≡ false
  not_early = elim (bool_cases (int_lt moment (last_moment s))) [
    | inl early ↦ absurd (omega (arith, signed_arith, early, last_is, low))
    | inr late ↦ late
  ]

  admits : admitted unit s moment Tick ≡ Ok ticks
  unfolding admitted
  admits =
      ap (λ b. refuse_if b (MomentBack (last_moment s)) >> (running s >> Ok ticks)) not_early
      ∙ ap (λ b. refuse_if (not b) NotStarted >> Ok ticks) waits.started

  step_is_done_by : run_step unit s store moment Tick ≡ done_by unit s store moment ticks
  step_is_done_by = step_of_admitted unit s store moment Tick ticks admits

  finds : taking_in unit store (at_moment s moment) ≡ at_moment s moment
  finds = dated_values unit store s moment ∙ ap (λ (t : RunState). at_moment t moment) waits.given

  seats : HasSeats (at_moment s moment)
  seats = let here = has_seats unit s waits.comes in record { seat = here.seat; seated = here.seated }

  settled_is : settled (is_started s) unit (taking_in unit store (at_moment s moment))
      ≡ ok_or (run_settling unit (at_moment s moment)) TurnBudget
  settled_is = ap₂ (λ b (t : RunState). settled b unit t) waits.started finds

  -- What a tick does once its settling is known.
  abbrev done_after : Settlement → DoneCommand
  done_after first = record {
    command = ticks;
    turns = first.turns + 0;
    sums = plus first.sums (no_settling first.state).sums;
    state = first.state;
    store = giving_back unit first.state store;
  }

  ticks_by : (first : Settlement) → run_settling unit (at_moment s moment) ≡ Some first
      → run_step unit s store moment Tick ≡ Ok (done_after first)
  ticks_by first is =
      step_is_done_by
      ∙ is_done unit store s moment ticks first
      (settled_is ∙ ap (λ (o : Option Settlement). ok_or o TurnBudget) is) refl (no_settling first.state) refl

  refused_by : run_settling unit (at_moment s moment) ≡ None → run_step unit s store moment Tick ≡ Err TurnBudget
  refused_by none =
      step_is_done_by
      ∙ first_refused unit store s moment ticks TurnBudget (settled_is ∙ ap (λ (o : Option Settlement). ok_or o TurnBudget) none)

  none_due : moment ≤ℤ pos 253402300799 → IsBefore moment (next_alarm unit s) → some_due unit (at_moment s moment) ≡ false
  none_due high before = elim (bool_cases (int_le moment now)) [
    | inl early ↦
        let same : moment ≡ now = omega (arith, signed_arith, low, early) in
        ap (λ z. some_due unit (at_moment s z)) same ∙ ap (some_due unit) (same_moment s now waits.dated) ∙ waits.rests
    | inr late ↦ none_due_before unit s now waits.dated moment (omega (arith, signed_arith, late)) high before
  ]

  pub fires_nothing : moment ≤ℤ pos 253402300799 → IsBefore moment (next_alarm unit s)
      → (d : DoneCommand) × (run_step unit s store moment Tick ≡ Ok d) × (d.turns ≡ 0) × (d.state ≡ at_moment s moment)
  fires_nothing high before =
      let first = no_settling (at_moment s moment) in
      (done_after first, ticks_by first (settles_at_once unit (at_moment s moment) seats (none_due high before)), refl, refl)

  pub fires_something : next_alarm unit s ≡ Some moment
      → (run_step unit s store moment Tick ≡ Err TurnBudget)
      ⊎ ((d : DoneCommand) × (run_step unit s store moment Tick ≡ Ok d) × (0 < d.turns))
  fires_something is = by (run_settling unit (at_moment s moment)) refl
    where
      by : (found : Option Settlement) → run_settling unit (at_moment s moment) ≡ found
          → (run_step unit s store moment Tick ≡ Err TurnBudget)
          ⊎ ((d : DoneCommand) × (run_step unit s store moment Tick ≡ Ok d) × (0 < d.turns))
      by None none = inl (refused_by none)
      by (Some first) some =
          let turns = has_a_turn unit (at_moment s moment) first some
          (first_sweep_fires unit (at_moment s moment) seats (due_at_alarm unit s now waits.dated moment is)) in
          inr (done_after first, ticks_by first some, omega (arith, turns))

pub nothing_before : (unit : Unit) (store : GlobalValues) (s : RunState) (now moment : ℤ) → IsWaiting unit store now s
    → now ≤ℤ moment → moment ≤ℤ pos 253402300799 → IsBefore moment (next_alarm unit s)
    → (d : DoneCommand) × (run_step unit s store moment Tick ≡ Ok d) × (d.turns ≡ 0) × (d.state ≡ at_moment s moment)
nothing_before unit store s now moment waits low high before = fires_nothing unit store s now waits moment low high before

pub something_at : (unit : Unit) (store : GlobalValues) (s : RunState) (now alarm : ℤ) → IsWaiting unit store now s
    → next_alarm unit s ≡ Some alarm
    → (run_step unit s store alarm Tick ≡ Err TurnBudget)
    ⊎ ((d : DoneCommand) × (run_step unit s store alarm Tick ≡ Ok d) × (0 < d.turns))
something_at unit store s now alarm waits is =
    let later = (alarm_is_later unit s now alarm waits.dated is).0 in
    fires_something unit store s now waits alarm (omega (arith, signed_arith, later)) is

-- ---- after a `next`

-- A started run that no sweep would move is at rest.
rests_at : (unit : Unit) (s : RunState) → IsReached unit s → is_started s ≡ true → HasSeats s → IsAtRest unit s
rests_at unit s reached started seats = elim (bool_cases (some_due unit s)) [
  | inl due ↦ absurd (first_sweep_fires unit s seats due (reached_rests unit s reached started))
  | inr none ↦ none
]

-- What was given back is taken in again.
given_values : (unit : Unit) (store : GlobalValues) (s : RunState) → IsValid unit → IsReached unit s
    → taking_in unit (giving_back unit s store) s ≡ s
given_values unit store s valid reached = λ i. record s { cells = λ cell. by cell (store_says unit given s.persons cell) refl i }
  where
    given : GlobalValues
    given = giving_back unit s store

    by : (cell : CellName) (said : Option (Option Datum)) → store_says unit given s.persons cell ≡ said
        → unwrap_or said (s.cells cell) ≡ s.cells cell
    by cell None is = refl
    by cell (Some value) is =
        let key = said_by unit given s.persons (uris_differ unit valid) (reached_names unit s reached) cell value is in
        sym key.value_is
        ∙ ap (λ found. unwrap_or (option_map s.cells found) (store key.uri key.person)) key.cell_is

-- The store that a command leaves has what its run gave back.
each_given : (unit : Unit) (s : RunState) (store : GlobalValues) (moment : ℤ) (asked : RunCommand)
    → Each (λ (d : DoneCommand). d.store ≡ giving_back unit d.state store) (run_step unit s store moment asked)
unfolding run_step
each_given unit s store moment asked =
    let P = λ (d : DoneCommand). d.store ≡ giving_back unit d.state store in
    each_bound P (admitted unit s moment asked) _ λ command.
    each_bound P (settled (is_started s) unit (begun unit store s moment)) _ λ first.
    each_then P (open_for_it unit first.state command) _
    (each_bound P (settled_after unit store first.state moment command) _ λ second. refl)

-- A `next` is done in a run that is started.
asked_of_started : (unit : Unit) (s : RunState) (moment : ℤ)
    → Each (λ (command : Admitted). is_started s ≡ true) (admitted unit s moment Next)
unfolding admitted
asked_of_started unit s moment =
    each_then (λ (command : Admitted). is_started s ≡ true) (in_time s moment) _ (by (is_started s) refl)
  where
    by : (b : Bool) → is_started s ≡ b
        → Each (λ (command : Admitted). is_started s ≡ true) (refuse_if (not b) NotStarted >> Ok shows_next)
    by true is = is
    by false is = tt

module _ (unit : Unit) (s : RunState) (store : GlobalValues) (moment : ℤ) (d : DoneCommand) (valid : IsValid unit)
    (comes : ComesTo unit s) (is : run_step unit s store moment Next ≡ Ok d) where
  was_started : is_started s ≡ true
  was_started =
      subst (Each (λ (command : Admitted). is_started s ≡ true)) (stages_of unit s store moment Next d is).checked
      (asked_of_started unit s moment)

  still_started : is_started d.state ≡ true
  still_started = by (s.cells Started) refl was_started
    where
      by : (value : Option Datum) → s.cells Started ≡ value → is_some value ≡ true → is_started d.state ≡ true
      by None none some = different (sym some)
      by (Some value) was some = ap is_some (step_leaves_start unit s store moment Next d value is was)

  reached : IsReached unit d.state
  reached = left_by s store moment Next d comes.reached is

  seated : HasSeats d.state
  seated = (subst (Each (KeepsSeats s)) is (step_keeps unit s store moment Next (has_seats unit s comes))).0

  values : HasItsValues unit d.store d.state
  values =
      ap (λ given. taking_in unit given d.state)
      (subst (Each (λ (one : DoneCommand). one.store ≡ giving_back unit one.state store)) is (each_given unit s store moment Next))
      ∙ given_values unit store d.state valid reached

  pub waits_after : IsWaiting unit d.store moment d.state
  waits_after = record {
    comes = record { reached = reached; seats = seated.seat };
    started = still_started;
    dated = (moments_never_go_back unit s store moment Next d is).1;
    rests = rests_at unit d.state reached still_started seated;
    given = values;
  }

pub runs_wait : (unit : Unit) (s : RunState) (store : GlobalValues) (moment : ℤ) (d : DoneCommand)
    → IsValid unit → ComesTo unit s → run_step unit s store moment Next ≡ Ok d → IsWaiting unit d.store moment d.state
runs_wait unit s store moment d valid comes is = waits_after unit s store moment d valid comes is
