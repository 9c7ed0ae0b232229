-- What a command does depends on the values of the unit's own global properties alone.
use Rattle.std.proofs.Common.{◌≡◌, ℕ, ℤ, List, ◌+◌, length, slice_get, unwrap_or, Option, None, Some, Result, Ok, Err, Bool, true, false, if◌then◌else◌, ◌&&◌, refl, sym, ap, ◌∙◌, subst}
use Rattle.ld_base.specs.Maybe.{◌>>=◌ as ◌and_then◌}
use Rattle.ld_model.specs.Properties.{initial_of}
use Rattle.ld_model.specs.declared.cell.CellName.{CellName}
use Rattle.ld_model.specs.declared.cell.CellName.TheVariants.{Prop, Vis, Member, Chosen, Opened, ActOpened, Started, Mark, Now, Roster}
use Rattle.ld_model.specs.declared.property.Property.{Property}
use Rattle.ld_model.specs.declared.unit.Unit.{Unit}
use Rattle.ld_expr.specs.Owners.{is_global}
use Rattle.ld_lines.specs.declared.command.RunCommand.{RunCommand}
use Rattle.ld_lines.specs.declared.command.RunCommand.TheVariants.{Enrol, Assign, Drop, Start, Open, Complete, Set, Clear, Get, Tree, Outbox, Report, Tick, Next}
use Rattle.ld_cascade.specs.Settling.{plus}
use Rattle.ld_roles.specs.Roster.{short_at_start}
use Rattle.ld_state.specs.GlobalValues.{GlobalValues}
use Rattle.ld_state.specs.RunCells.{begins_as, property_begins, stored_value}
use Rattle.ld_state.specs.RunState.{RunState, is_kept_for, joined}
use Rattle.ld_firing.specs.RunSettling.{Settlement}
use Rattle.ld_run.specs.Changes.{directly_changed, has_change}
use Rattle.ld_admission.specs.Checks.{admitted, fitting_value, in_time, is_started, keeps_apart, does_not_hold, has_room, has_seat, holds_it, may_write, none_short, not_enrolled, not_running, only_by_choice, running, shortage_if_running, the_activity, the_person, the_property, the_role}
use Rattle.ld_admission.specs.Commands.{Admitted, enrols, assigns, drops, starts, opens, completes, sets, clears, gets, shows_tree, shows_outbox, reports, ticks, shows_next}
use Rattle.ld_admission.specs.Refusals.{Refusal, ◌unless_refused◌ as ◌>>=◌, ◌>>◌}
use Rattle.ld_run.specs.RunStep.{DoneCommand, at_moment, done_by, open_for_it, run_step, settled}
use Rattle.ld_run.proofs.SeatsOfChecks.{Each, each_bound, each_then}
use Rattle.ld_sharing.specs.Globals.{giving_back, taking_in}
use Rattle.ld_world.specs.Isolation.{HoldTheSame, OwnValuesTell, but_for_store, newcomer_of}

-- ---- what a command is told by the store

-- How the cells of one who joins begin.
module _ (unit : Unit) (store other : GlobalValues) (name : List ℕ)
    (same : (n : ℕ) (property : Property) → slice_get unit.properties n ≡ Some property → is_global property.kind ≡ true
    → stored_value store (Some name) property ≡ stored_value other (Some name) property) where
  property_alike : (n : ℕ) → (slice_get unit.properties n and_then property_begins store (Some name)) ≡ (slice_get unit.properties n and_then property_begins other (Some name))
  property_alike n = by (slice_get unit.properties n) refl
    where
      inner : (property : Property) (global : Bool) → is_global property.kind ≡ global → slice_get unit.properties n ≡ Some property
          → (if global then stored_value store (Some name) property else initial_of property) ≡ (if global then stored_value other (Some name) property else initial_of property)
      inner property true is at = same n property at is
      inner property false is at = refl

      by : (found : Option Property) → slice_get unit.properties n ≡ found → (found and_then property_begins store (Some name)) ≡ (found and_then property_begins other (Some name))
      by None at = refl
      by (Some property) at = inner property (is_global property.kind) refl at

  begins_alike : (moment : ℤ) (cell : CellName) → begins_as unit store (Some name) moment cell ≡ begins_as unit other (Some name) moment cell
  unfolding begins_as
  begins_alike moment (Prop n owner) = property_alike n.0
  begins_alike moment (Vis t p) = refl
  begins_alike moment (Member r p) = refl
  begins_alike moment (Chosen t owner) = refl
  begins_alike moment (Opened t owner) = refl
  begins_alike moment (ActOpened t) = refl
  begins_alike moment Started = refl
  begins_alike moment (Mark r owner) = refl
  begins_alike moment Now = refl
  begins_alike moment Roster = refl

  joined_alike : (s : RunState) (moment : ℤ) → joined unit store s moment name ≡ joined unit other s moment name
  joined_alike s moment = λ i. record (joined unit store s moment name) {
    cells = λ cell. if is_kept_for unit (length s.persons) cell then begins_alike moment cell i else s.cells cell;
  }

-- The person who joins by an admitted command.
abbrev pub joins : Admitted → Option (List ℕ)
joins (enrols name) = Some name
joins _ = None

abbrev pub IsOf : RunCommand → Admitted → Type 0
IsOf asked command = joins command ≡ newcomer_of asked

pub admitted_is : (unit : Unit) (s : RunState) (moment : ℤ) (asked : RunCommand) → Each (IsOf asked) (admitted unit s moment asked)
unfolding admitted
admitted_is unit s moment (Enrol person) =
    each_then (IsOf (Enrol person)) (in_time s moment) _ (each_then (IsOf (Enrol person)) (not_enrolled s person) _ (each_then (IsOf (Enrol person)) (has_seat s) _ refl))
admitted_is unit s moment (Assign person role) =
    let P = IsOf (Assign person role) in
    each_then P (in_time s moment) _ (each_bound P (the_person s person) _ λ p. each_bound P (the_role unit role) _ λ r. each_then P (does_not_hold s r p) _ (each_then P (has_room unit s r p) _ (each_then P (keeps_apart unit s r p) _ refl)))
admitted_is unit s moment (Drop person role) =
    let P = IsOf (Drop person role) in
    each_then P (in_time s moment) _ (each_bound P (the_person s person) _ λ p. each_bound P (the_role unit role) _ λ r. each_then P (holds_it s r p) _ (each_then P (none_short unit (shortage_if_running unit s r p (is_started s))) _ refl))
admitted_is unit s moment Start =
    let P = IsOf Start in
    each_then P (in_time s moment) _ (each_then P (not_running s) _ (each_then P (none_short unit (short_at_start unit s.persons)) _ refl))
admitted_is unit s moment (Open person activity) =
    let P = IsOf (Open person activity) in
    each_then P (in_time s moment) _ (each_then P (running s) _ (each_bound P (the_person s person) _ λ p. each_bound P (the_activity unit activity) _ λ found. refl))
admitted_is unit s moment (Complete person activity) =
    let P = IsOf (Complete person activity) in
    each_then P (in_time s moment) _ (each_then P (running s) _ (each_bound P (the_person s person) _ λ p. each_bound P (the_activity unit activity) _ λ found. each_then P (only_by_choice found.activity) _ refl))
admitted_is unit s moment (Set person property text) =
    let P = IsOf (Set person property text) in
    each_then P (in_time s moment) _ (each_then P (running s) _ (each_bound P (the_person s person) _ λ p. each_bound P (the_property unit property) _ λ found. each_bound P (fitting_value found.property text) _ λ value. each_then P (may_write unit s p found.property) _ refl))
admitted_is unit s moment (Clear person property) =
    let P = IsOf (Clear person property) in
    each_then P (in_time s moment) _ (each_then P (running s) _ (each_bound P (the_person s person) _ λ p. each_bound P (the_property unit property) _ λ found. each_then P (may_write unit s p found.property) _ refl))
admitted_is unit s moment (Get person property) =
    let P = IsOf (Get person property) in
    each_then P (in_time s moment) _ (each_then P (running s) _ (each_bound P (the_person s person) _ λ p. each_bound P (the_property unit property) _ λ found. refl))
admitted_is unit s moment (Tree person) =
    let P = IsOf (Tree person) in
    each_then P (in_time s moment) _ (each_then P (running s) _ (each_bound P (the_person s person) _ λ p. refl))
admitted_is unit s moment (Outbox person) =
    let P = IsOf (Outbox person) in
    each_then P (in_time s moment) _ (each_then P (running s) _ (each_bound P (the_person s person) _ λ p. refl))
admitted_is unit s moment Report = each_then (IsOf Report) (in_time s moment) _ (each_then (IsOf Report) (running s) _ refl)
admitted_is unit s moment Tick = each_then (IsOf Tick) (in_time s moment) _ (each_then (IsOf Tick) (running s) _ refl)
admitted_is unit s moment Next = each_then (IsOf Next) (in_time s moment) _ (each_then (IsOf Next) (running s) _ refl)

-- ---- the step

bound_alike : {A : Type 0} (r : Result A Refusal) (next other : A → Result DoneCommand Refusal) → ((x : A) → r ≡ Ok x → but_for_store (next x) ≡ but_for_store (other x))
    → but_for_store (r >>= next) ≡ but_for_store (r >>= other)
bound_alike (Ok x) next other same = same x refl
bound_alike (Err refusal) next other same = refl

then_alike : {A : Type 0} (r : Result A Refusal) (next other : Result DoneCommand Refusal) → but_for_store next ≡ but_for_store other
    → but_for_store (r >> next) ≡ but_for_store (r >> other)
then_alike (Ok x) next other same = same
then_alike (Err refusal) next other same = refl

module _ (unit : Unit) (s : RunState) (store other : GlobalValues) (moment : ℤ) (asked : RunCommand) (hold : HoldTheSame unit s asked store other) where
  -- The run takes in the same.
  taken_alike : taking_in unit store (at_moment s moment) ≡ taking_in unit other (at_moment s moment)
  taken_alike = λ i. record (at_moment s moment) { cells = λ cell. unwrap_or (hold.present cell i) ((at_moment s moment).cells cell) }

  changed_alike : (t : RunState) (command : Admitted) → joins command ≡ newcomer_of asked → directly_changed unit store t moment command ≡ directly_changed unit other t moment command
  changed_alike t (enrols name) is = joined_alike unit store other name (hold.joining name (sym is)) t moment
  changed_alike t (assigns p role) is = refl
  changed_alike t (drops p role) is = refl
  changed_alike t starts is = refl
  changed_alike t (opens p thing) is = refl
  changed_alike t (completes p thing) is = refl
  changed_alike t (sets cell value) is = refl
  changed_alike t (clears cell) is = refl
  changed_alike t (gets cell) is = refl
  changed_alike t (shows_tree p) is = refl
  changed_alike t (shows_outbox p) is = refl
  changed_alike t reports is = refl
  changed_alike t ticks is = refl
  changed_alike t shows_next is = refl

  -- What is done over a store once the run has settled for the first time, and for the second.
  abbrev done_so : GlobalValues → Admitted → Settlement → Settlement → Result DoneCommand Refusal
  done_so over command first second = Ok (record {
    command = command;
    turns = first.turns + second.turns;
    sums = plus first.sums second.sums;
    state = second.state;
    store = giving_back unit second.state over;
  })

  abbrev settles_so : GlobalValues → Admitted → Settlement → RunState → Result DoneCommand Refusal
  settles_so over command first changed = settled (has_change command && is_started changed) unit changed >>= done_so over command first

  abbrev goes_on : GlobalValues → Admitted → Settlement → Result DoneCommand Refusal
  goes_on over command first =
      open_for_it unit first.state command >> settles_so over command first (directly_changed unit over first.state moment command)

  first_alike : (command : Admitted) (first : Settlement) → joins command ≡ newcomer_of asked → but_for_store (goes_on store command first) ≡ but_for_store (goes_on other command first)
  first_alike command first is =
      ap (λ changed. but_for_store (open_for_it unit first.state command >> settles_so store command first changed)) (changed_alike first.state command is)
      ∙ then_alike (open_for_it unit first.state command) _ _
      (bound_alike (settled (has_change command && is_started (directly_changed unit other first.state moment command)) unit (directly_changed unit other first.state moment command)) _ _ λ second at. refl)

  done_alike : (command : Admitted) → joins command ≡ newcomer_of asked → but_for_store (done_by unit s store moment command) ≡ but_for_store (done_by unit s other moment command)
  done_alike command is =
      ap (λ taken. but_for_store (settled (is_started s) unit taken >>= goes_on store command)) taken_alike
      ∙ bound_alike (settled (is_started s) unit (taking_in unit other (at_moment s moment))) _ _ λ first at. first_alike command first is

  step_alike : but_for_store (run_step unit s store moment asked) ≡ but_for_store (run_step unit s other moment asked)
  unfolding run_step
  step_alike = bound_alike (admitted unit s moment asked) _ _ λ command at. done_alike command (subst (Each (IsOf asked)) at (admitted_is unit s moment asked))

pub own_values_tell : OwnValuesTell
own_values_tell unit s store other moment asked hold = step_alike unit s store other moment.0 asked hold
