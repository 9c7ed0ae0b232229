-- Runs that differ in the cells of global properties alone do the same by each command, since these cells are
-- taken in again before they are seen.
use Rattle.std.proofs.Common.{◌≡◌, ℕ, ℤ, ◌+◌, ◌&&◌, List, [], unwrap_or, Option, None, Some, is_some, Result, Ok, Err, Bool, false, slice_get, if◌then◌else◌, refl, sym, ap, ◌∙◌}
use Rattle.ld_base.specs.Maybe.{◌>>=◌ as ◌and_then◌, provided}
use Rattle.ld_value.specs.Datum.{Datum, moment_datum, same_truth}
use Rattle.ld_model.specs.Cells.{CellMap, same_cell}
use Rattle.ld_model.specs.Properties.{initial_of, is_personal}
use Rattle.ld_model.specs.declared.cell.CellName.{CellName}
use Rattle.ld_model.specs.declared.cell.CellName.TheVariants.{Prop, Vis, Member, Chosen, Opened, ActOpened, Started, Mark, Now, Roster}
use Rattle.ld_model.specs.declared.cell.Owner.TheVariants.{Run, Person}
use Rattle.ld_model.specs.declared.property.Property.{Property}
use Rattle.ld_model.specs.declared.property.PropertyKind.{PropertyKind}
use Rattle.ld_model.specs.declared.property.PropertyKind.TheVariants.{Loc, LocPers, LocRole, GlobPers, Glob}
use Rattle.ld_model.specs.declared.unit.Unit.{Unit}
use Rattle.ld_names.specs.Holders.{holder_by_kind, holder_of, is_held_by_run}
use Rattle.ld_expr.specs.Lookup.{is_some_and}
use Rattle.ld_expr.specs.Owners.{is_global}
use Rattle.ld_lines.specs.declared.command.RunCommand.{RunCommand}
use Rattle.ld_lines.specs.declared.command.RunCommand.TheVariants.{Enrol, Assign, Drop, Start, Open, Complete, Set, Clear, Get, Tree, Outbox, Report, Tick, Next}
use Rattle.ld_value.specs.declared.moment.Moment.{Moment}
use Rattle.ld_cascade.specs.Settling.{plus}
use Rattle.ld_state.specs.GlobalValues.{GlobalValues}
use Rattle.ld_state.specs.RunCells.{begins_as, property_begins}
use Rattle.ld_state.specs.RunState.{RunState, cell_of, made_at}
use Rattle.ld_sharing.specs.Globals.{giving_back, store_person, store_says, taking_in}
use Rattle.ld_run.specs.Changes.{directly_changed, has_change}
use Rattle.ld_admission.specs.Checks.{admitted, is_started}
use Rattle.ld_admission.specs.Commands.{Admitted}
use Rattle.ld_admission.specs.Refusals.{Refusal, ◌unless_refused◌ as ◌>>=◌, ◌>>◌}
use Rattle.ld_run.specs.RunStep.{DoneCommand, at_moment, done_by, open_for_it, run_step, settled}
use Rattle.ld_run.specs.RunView.{state_after}
use Rattle.ld_world.specs.Isolation.{HoldTheSame, but_for_store}
use Rattle.ld_world.proofs.OwnValues.{own_values_tell}

-- The two states agree on all but the cells of global properties: those of which a store says something.
pub record IsSameButGlobals (unit : Unit) (s t : RunState) : Type 0 where
  pub seats : s.seats ≡ t.seats
  pub persons : s.persons ≡ t.persons
  pub outbox : s.outbox ≡ t.outbox
  pub cells : (store : GlobalValues) (cell : CellName) → store_says unit store s.persons cell ≡ None → s.cells cell ≡ t.cells cell

-- States that are one agree so.
itself : (unit : Unit) (s t : RunState) → s ≡ t → IsSameButGlobals unit s t
itself unit s t same = record {
  seats = ap (λ (x : RunState). x.seats) same;
  persons = ap (λ (x : RunState). x.persons) same;
  outbox = ap (λ (x : RunState). x.outbox) same;
  cells = λ store cell says. ap (λ (x : RunState). x.cells cell) same;
}

-- ---- the checks

-- The cells at which the checks look.
abbrev checked_cells : CellMap → CellMap
checked_cells cells Started = cells Started
checked_cells cells Now = cells Now
checked_cells cells _ = None

abbrev checked : RunState → RunState
checked s = record { seats = s.seats; persons = s.persons; outbox = []; cells = checked_cells s.cells }

-- They look at nothing else of the state.
by_checked : (unit : Unit) (s : RunState) (moment : ℤ) (asked : RunCommand) → admitted unit s moment asked ≡ admitted unit (checked s) moment asked
unfolding admitted cell_of
by_checked unit s moment (Enrol person) = refl
by_checked unit s moment (Assign person role) = refl
by_checked unit s moment (Drop person role) = refl
by_checked unit s moment Start = refl
by_checked unit s moment (Open person activity) = refl
by_checked unit s moment (Complete person activity) = refl
by_checked unit s moment (Set person property text) = refl
by_checked unit s moment (Clear person property) = refl
by_checked unit s moment (Get person property) = refl
by_checked unit s moment (Tree person) = refl
by_checked unit s moment (Outbox person) = refl
by_checked unit s moment Report = refl
by_checked unit s moment Tick = refl
by_checked unit s moment Next = refl

-- ---- what is done

-- What an admitted command does, from the state that has taken in the store's values.
abbrev done_from : Unit → GlobalValues → ℤ → Admitted → Bool → RunState → Result DoneCommand Refusal
done_from unit store moment command started taken = do
  first ← settled started unit taken
  open_for_it unit first.state command
  let changed_state = directly_changed unit store first.state moment command
  second ← settled (has_change command && is_started changed_state) unit changed_state
  Ok (record {
    command = command;
    turns = first.turns + second.turns;
    sums = plus first.sums second.sums;
    state = second.state;
    store = giving_back unit second.state store;
  })

module _ (unit : Unit) (s t : RunState) (same : IsSameButGlobals unit s t) where
  -- The checks find the same.
  checked_cells_same : (cell : CellName) → checked_cells s.cells cell ≡ checked_cells t.cells cell
  checked_cells_same (Prop n owner) = refl
  checked_cells_same (Vis n p) = refl
  checked_cells_same (Member r p) = refl
  checked_cells_same (Chosen n owner) = refl
  checked_cells_same (Opened n owner) = refl
  checked_cells_same (ActOpened n) = refl
  checked_cells_same Started = same.cells (λ _ _. None) Started refl
  checked_cells_same (Mark r owner) = refl
  checked_cells_same Now = same.cells (λ _ _. None) Now refl
  checked_cells_same Roster = refl

  checked_same : checked s ≡ checked t
  checked_same = λ i. record { seats = same.seats i; persons = same.persons i; outbox = []; cells = λ cell. checked_cells_same cell i }

  admitted_same : (moment : ℤ) (asked : RunCommand) → admitted unit s moment asked ≡ admitted unit t moment asked
  admitted_same moment asked =
      by_checked unit s moment asked ∙ ap (λ x. admitted unit x moment asked) checked_same ∙ sym (by_checked unit t moment asked)

  -- ---- the step

  -- A cell has the store's value, or else the one that it had in both.
  taken_cell_same : (store : GlobalValues) (moment : ℤ) (cell : CellName) → (taking_in unit store (at_moment s moment)).cells cell ≡ (taking_in unit store (at_moment t moment)).cells cell
  taken_cell_same store moment cell =
      by (store_says unit store s.persons cell) refl
      ∙ ap (λ persons. unwrap_or (store_says unit store persons cell) ((at_moment t moment).cells cell)) same.persons
    where
      by : (says : Option (Option Datum)) → store_says unit store s.persons cell ≡ says
          → unwrap_or says ((at_moment s moment).cells cell) ≡ unwrap_or says ((at_moment t moment).cells cell)
      by None at = ap (λ value. if same_cell cell Now then Some (moment_datum moment) else value) (same.cells store cell at)
      by (Some value) at = refl

  -- Both are one once the store's values are taken in.
  taken_same : (store : GlobalValues) (moment : ℤ) → taking_in unit store (at_moment s moment) ≡ taking_in unit store (at_moment t moment)
  taken_same store moment = λ i. record {
    seats = same.seats i;
    persons = same.persons i;
    outbox = same.outbox i;
    cells = λ cell. taken_cell_same store moment cell i;
  }

  started_same : is_started s ≡ is_started t
  started_same = ap is_some (same.cells (λ _ _. None) Started refl)

  done_same : (store : GlobalValues) (moment : ℤ) (command : Admitted) → done_by unit s store moment command ≡ done_by unit t store moment command
  done_same store moment command = λ i. done_from unit store moment command (started_same i) (taken_same store moment i)

  -- A command does the same in both.
  pub step_same : (store : GlobalValues) (moment : ℤ) (asked : RunCommand) → run_step unit s store moment asked ≡ run_step unit t store moment asked
  unfolding run_step
  step_same store moment asked = λ i. admitted_same moment asked i >>= λ command. done_same store moment command i

-- ---- over two stores

-- Over stores that hold the same of the unit's global properties, a command does the same in both.
pub step_alike : (unit : Unit) (s t : RunState) (store other : GlobalValues) (moment : Moment) (asked : RunCommand) → IsSameButGlobals unit s t → HoldTheSame unit s asked store other
    → but_for_store (run_step unit s store moment.0 asked) ≡ but_for_store (run_step unit t other moment.0 asked)
step_alike unit s t store other moment asked same hold =
    own_values_tell unit s store other moment asked hold ∙ ap but_for_store (step_same unit s t same other moment.0 asked)

-- Where a command does the same but for the store, the states after it agree so again.
pub left_alike : (unit : Unit) (s t : RunState) (r q : Result DoneCommand Refusal) → IsSameButGlobals unit s t → but_for_store r ≡ but_for_store q
    → IsSameButGlobals unit (state_after s r) (state_after t q)
left_alike unit s t (Ok d) (Ok e) same alike = itself unit d.state e.state (ap (state_after s) alike)
left_alike unit s t (Err refusal) (Err other) same alike = same
left_alike unit s t (Ok d) (Err refusal) same alike = cc
left_alike unit s t (Err refusal) (Ok d) same alike = cc

-- ---- how a run begins

module _ (seats : ℕ) (unit : Unit) (store other : GlobalValues) (moment : ℤ) where
  -- What a global property of the run begins as; a store says something of its cell, unless it has no uri.
  shared_same : (said : GlobalValues) (uri : Option (List ℕ)) → (uri and_then λ u. Some (said u None)) ≡ None → (uri and_then λ u. store u None) ≡ (uri and_then λ u. other u None)
  shared_same said None says = refl
  shared_same said (Some u) says = cc

  -- As what the run's value of a property of this kind begins over a store.
  abbrev begun_over : GlobalValues → Property → PropertyKind → Option Datum
  begun_over values property kind =
      let shared = if same_truth (is_personal kind) false then (property.uri and_then λ u. values u None) else None in
      if is_held_by_run (holder_by_kind kind) then (if is_global kind then shared else initial_of property) else None

  -- The same of any property.
  property_same : (said : GlobalValues) (property : Property) (kind : PropertyKind)
      → ((provided (is_global kind) property and_then λ one. one.uri)
      and_then λ u. store_person [] (is_personal kind) Run and_then λ person. Some (said u person)) ≡ None
      → begun_over store property kind ≡ begun_over other property kind
  property_same said property Loc says = refl
  property_same said property LocPers says = refl
  property_same said property LocRole says = refl
  property_same said property GlobPers says = refl
  property_same said property Glob says = shared_same said property.uri says

  -- Each cell of which no store says anything begins the same over both stores.
  made_cells_same : (said : GlobalValues) (cell : CellName) → store_says unit said [] cell ≡ None
      → (made_at seats unit store moment).cells cell ≡ (made_at seats unit other moment).cells cell
  unfolding begins_as
  made_cells_same said (Prop n (Person p)) says = refl
  made_cells_same said (Prop n Run) says = by (slice_get unit.properties n.0) says
    where
      by : (found : Option Property)
          → (found and_then λ property. (provided (is_global property.kind) property and_then λ one. one.uri) and_then λ u. store_person [] (is_personal property.kind) Run and_then λ person. Some (said u person)) ≡ None
          → (if is_some_and (λ property. is_held_by_run (holder_of unit property)) found then (found and_then property_begins store None) else None)
          ≡ (if is_some_and (λ property. is_held_by_run (holder_of unit property)) found then (found and_then property_begins other None) else None)
      by None says = refl
      by (Some property) says = property_same said property property.kind says
  made_cells_same said (Vis n p) says = refl
  made_cells_same said (Member r p) says = refl
  made_cells_same said (Chosen n owner) says = refl
  made_cells_same said (Opened n owner) says = refl
  made_cells_same said (ActOpened n) says = refl
  made_cells_same said Started says = refl
  made_cells_same said (Mark r Run) says = refl
  made_cells_same said (Mark r (Person p)) says = refl
  made_cells_same said Now says = refl
  made_cells_same said Roster says = refl

  -- A run is made the same over any two stores but for the cells of global properties.
  pub made_same : IsSameButGlobals unit (made_at seats unit store moment) (made_at seats unit other moment)
  made_same = record { seats = refl; persons = refl; outbox = refl; cells = made_cells_same }
