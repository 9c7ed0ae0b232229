-- How many steps a command may take: of its checks, of what it takes in and gives back, of its settlings, and of what
-- is shown. A settling counts each site once for all slots that changed before it, and each firing's readers once: so
-- it is at most the sum over single changes.
use Rattle.std.specs.Prelude.{ℕ, ℤ, ◌+◌, ◌*◌, List, [], filter, length, Bool, true, false, is_some, cond, not, ◌&&◌, ◌||◌, slice_get, Result, Ok, Err}
use Rattle.std.specs.List.{count_by}
use Rattle.std.specs.Option.{option_eq}
use Rattle.ld_base.specs.Maybe.{◌>>=◌}
use Rattle.ld_base.specs.Numbers.{numbers_below}
use Rattle.ld_value.specs.Datum.{same_datum}
use Rattle.ld_cascade.specs.Settling.{all_firings, changes_of}
use Rattle.ld_cascade.specs.SettlingWork.{relinked_weight, settling_steps}
use Rattle.ld_cascade.specs.Work.{meets}
use Rattle.ld_globals.specs.Store.{Store}
use Rattle.ld_model.specs.declared.cell.CellName.{CellName}
use Rattle.ld_model.specs.declared.cell.CellName.TheVariants.{Prop}
use Rattle.ld_model.specs.declared.unit.Unit.{Unit}
use Rattle.ld_lines.specs.declared.command.RunCommand.{RunCommand}
use Rattle.ld_expr.specs.Lookup.{is_some_and}
use Rattle.ld_roles.specs.declared.limit.TheConstants.{SEATS}
use Rattle.ld_state.specs.GlobalValues.{GlobalValues}
use Rattle.ld_state.specs.RunCells.{all_cells}
use Rattle.ld_state.specs.RunState.{RunState}
use Rattle.ld_state.specs.StateView.{run_of}
use Rattle.ld_firing.specs.RunSettling.{Settlement}
use Rattle.ld_firing.specs.RunSystem.{content_of, run_system}
use Rattle.ld_settling.specs.RunLinking.{RunWiring}
use Rattle.ld_sharing.specs.Current.{written_count}
use Rattle.ld_sharing.specs.Globals.{taking_in}
use Rattle.ld_sharing.specs.StoreView.{shared_count, values_of}
use Rattle.ld_admission.specs.CheckSteps.{check_steps}
use Rattle.ld_admission.specs.Checks.{admitted, is_started}
use Rattle.ld_admission.specs.Commands.{Admitted, enrols, opens, completes, sets, clears, gets, shows_tree, reports, shows_next}
use Rattle.ld_admission.specs.Refusals.{Refusal}
use Rattle.ld_step_laws.specs.Nodes.{nodes_of}
use Rattle.ld_run.specs.Changes.{directly_changed, has_change, renews_sites}
use Rattle.ld_run.specs.AlarmWork.{steps_for_alarm}
use Rattle.ld_run.specs.RunStep.{DoneCommand, at_moment, done_by, settled}
use Rattle.ld_run.specs.RunView.{RunView}

-- ---- a settling

-- What restoring the links may take, in a command that began in this state.
abbrev pub restoring : Unit → RunState → RunWiring → ℕ
restoring unit begun links = relinked_weight (run_system unit) begun links.wiring.relinked

-- The slots that a run has and in which it differs from a later state of it.
abbrev pub slots_changed : Unit → RunState → RunState → List ℕ
slots_changed unit s t =
    filter (λ k. not (option_eq same_datum (content_of unit s k) (content_of unit t k)))
    (numbers_below (length (all_cells unit (length s.persons))))

-- The number is to be judged first after a change: no site had it, or its site read a slot that changed. What no site
-- has afterwards either takes no step.
abbrev pub is_stirred : Unit → RunState → List ℕ → ℕ → Bool
is_stirred unit before changed i =
    not ((run_system unit).is_site before i) || meets ((run_system unit).reads before i) changed

-- Which numbers are to be judged first, once the run changed from one state to another: all, where its sites are
-- renewed.
abbrev pub judged_first : Bool → Unit → RunState → RunState → ℕ → Bool
judged_first true unit before now i = true
judged_first false unit before now i = is_stirred unit before (slots_changed unit before now) i

-- The steps of a settling of the run from this state on, in a command that began in another, after the run changed from
-- a third.
abbrev pub steps_settling : Bool → Unit → RunState → RunState → RunState → ℕ
steps_settling renews unit begun before now =
    settling_steps (run_system unit) begun now unit.turns (judged_first renews unit before now)

-- Those, if the run settles at all.
abbrev pub steps_if : Bool → Bool → Unit → RunState → RunState → RunState → ℕ
steps_if settles renews unit begun before now = cond settles (steps_settling renews unit begun before now) 0

-- The slots that the settling of a run changes, one firing after the other, if it settles.
abbrev pub slots_if : Bool → Unit → RunState → List ℕ
slots_if settles unit s = cond settles (changes_of (run_system unit) (all_firings (run_system unit) s unit.turns)) []

-- The cell is one of a property that has a uri: the store may have its value.
abbrev pub is_shared_cell : Unit → CellName → Bool
is_shared_cell unit (Prop p _) = is_some (slice_get unit.properties p.0 >>= λ property. property.uri)
is_shared_cell unit _ = false

-- How many of these slots are those of such cells.
abbrev pub shared_among : Unit → List ℕ → ℕ
shared_among unit slots = count_by (λ k. is_some_and (is_shared_cell unit) (slice_get (all_cells unit SEATS) k)) slots

-- What a settling takes, if there is one: its steps, and two for each value that it changes and that the store may have,
-- to look whether the store has another.
abbrev pub settling_work : Bool → Bool → Unit → RunState → RunState → RunState → ℕ
settling_work settles renews unit begun before now =
    steps_if settles renews unit begun before now + 2 * shared_among unit (slots_if settles unit now)

-- ---- an admitted command

-- The run once the moment is kept and the store's values are taken in.
abbrev pub refreshed : Unit → GlobalValues → RunState → ℤ → RunState
refreshed unit store s moment = taking_in unit store (at_moment s moment)

-- What the second settling takes, if the first one came to this.
abbrev pub second_work : Unit → GlobalValues → RunState → ℤ → Admitted → Result Settlement Refusal → ℕ
second_work unit store begun moment command (Err refusal) = 0
second_work unit store begun moment command (Ok first) =
    let now = directly_changed unit store first.state moment command in
    settling_work (has_change command && is_started now) (renews_sites command) unit begun first.state now

-- What both settlings of a command take.
abbrev pub settlings_work : Unit → GlobalValues → RunState → ℤ → Admitted → ℕ
settlings_work unit store s moment command =
    let now = refreshed unit store s moment in
    settling_work (is_started s) false unit s s now
    + second_work unit store s moment command (settled (is_started s) unit now)

-- Steps to look at the tree of a person, at most.
abbrev pub tree_steps : Unit → ℕ
tree_steps unit = 6 * nodes_of unit + 1

-- Steps to see whether what the command opens or completes is open.
abbrev pub opening_steps : Unit → Admitted → ℕ
opening_steps unit (opens _ _) = tree_steps unit
opening_steps unit (completes _ _) = tree_steps unit
opening_steps unit _ = 0

-- Steps of the direct change: for who joins, what the store holds of each property of persons; whether an activity
-- was opened before; and where a property is written, whether the store has another value.
abbrev pub changing_steps : Unit → Admitted → ℕ
changing_steps unit (enrols _) = shared_count unit true
changing_steps unit (opens _ _) = 1
changing_steps unit (sets _ _) = 2
changing_steps unit (clears _) = 2
changing_steps unit _ = 0

-- Steps to look at what is told of the command, in the state that it leaves.
abbrev pub showing_steps : Unit → RunState → Admitted → ℕ
showing_steps unit s (gets _) = 1
showing_steps unit s (shows_tree _) = tree_steps unit
showing_steps unit s reports = 2 * nodes_of unit + 2
showing_steps unit s shows_next = steps_for_alarm unit s
showing_steps unit s _ = 0

-- Those of a command that was done. Of another nothing is looked at.
abbrev pub telling_steps : Unit → Result DoneCommand Refusal → ℕ
telling_steps unit (Err refusal) = 0
telling_steps unit (Ok d) = showing_steps unit d.state d.command

-- The steps of doing a command that is admitted: three for each key of the store that was written since the run took
-- its values in; whether the run is started, for each settling; and what changes it.
abbrev pub doing_steps : Unit → RunState → GlobalValues → ℕ → ℤ → Admitted → ℕ
doing_steps unit s store written moment command =
    3 * written + 2 + opening_steps unit command + changing_steps unit command
    + settlings_work unit store s moment command

-- With those of telling it, and of seeing whether the run is started where it is rolled back.
abbrev pub admitted_steps : Unit → RunState → GlobalValues → ℕ → ℤ → Admitted → ℕ
admitted_steps unit s store written moment command =
    doing_steps unit s store written moment command + telling_steps unit (done_by unit s store moment command) + 1

-- ---- a command

-- Those, where the checks come to this; none where they refuse it.
abbrev pub checked_steps : Unit → RunState → GlobalValues → ℕ → ℤ → Result Admitted Refusal → ℕ
checked_steps unit s store written moment (Err refusal) = 0
checked_steps unit s store written moment (Ok command) = admitted_steps unit s store written moment command

-- The steps of a command: its checks, and what an admitted one takes.
abbrev pub command_steps_of : Unit → RunState → GlobalValues → ℕ → ℤ → RunCommand → ℕ
command_steps_of unit s store written moment asked =
    check_steps asked + checked_steps unit s store written moment (admitted unit s moment asked)

-- The same of a run and a store as contracts see them.
abbrev pub command_steps : RunView → Store → ℤ → RunCommand → ℕ
command_steps run store moment asked =
    command_steps_of run.unit (run_of run.state) (values_of store) (written_count store run.stamp) moment asked
