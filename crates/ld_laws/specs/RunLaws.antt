-- What lasts in a run, and what a command that is done leaves as it was.
use Rattle.std.specs.Prelude.{◌≡◌, ℕ, ℤ, Ok, Some, true, false, ◌<◌, int_lt, List}
use Rattle.ld_value.specs.Datum.{Datum, moment_datum}
use Rattle.ld_model.specs.declared.cell.CellName.TheVariants.{Now, Started}
use Rattle.ld_model.specs.declared.cell.Owner.{Owner}
use Rattle.ld_model.specs.declared.unit.Unit.{Unit}
use Rattle.ld_lines.specs.declared.command.RunCommand.{RunCommand}
use Rattle.ld_expr.specs.Done.{is_done}
use Rattle.ld_expr.specs.Seen.{opened_cell}
use Rattle.ld_state.specs.GlobalValues.{GlobalValues}
use Rattle.ld_state.specs.RunState.{RunState, seen_in}
use Rattle.ld_rules.specs.LawWords.{HasOwner, is_for_good, is_marked}
use Rattle.ld_sharing.specs.Globals.{taking_in}
use Rattle.ld_admission.specs.Checks.{is_started, last_moment}
use Rattle.ld_run.specs.Changes.{directly_changed}
use Rattle.ld_run.specs.Reached.{IsReached}
use Rattle.ld_run.specs.RunStep.{DoneCommand, at_moment, run_step}
use Rattle.ld_laws.specs.Untouched.{IsUntouched}

-- A run of the unit comes to this state. It has seats: each run of the program has 200.
pub record ComesTo (unit : Unit) (s : RunState) : Type 0 where
  pub reached : IsReached unit s
  pub seats : 0 < s.seats

-- ---- what lasts

-- What a rule that is no condition has once said yes to, for the run or for one of its persons, it has said yes to
-- after each command that is done.
abbrev pub YesStays : Type 0
YesStays =
    (unit : Unit) (s : RunState) (store : GlobalValues) (moment : ℤ) (asked : RunCommand) (d : DoneCommand)
    (rule : ℕ) (owner : Owner)
    → run_step unit s store moment asked ≡ Ok d → is_for_good unit rule ≡ true → HasOwner s owner
    → is_marked s rule owner ≡ true → is_marked d.state rule owner ≡ true

-- What is done, for the run or for one of its persons, is done after each command that is done.
abbrev pub DoneStays : Type 0
DoneStays =
    (unit : Unit) (s : RunState) (store : GlobalValues) (moment : ℤ) (asked : RunCommand) (d : DoneCommand)
    (owner : Owner) (id : List ℕ)
    → run_step unit s store moment asked ≡ Ok d → HasOwner s owner
    → is_done unit (seen_in unit s) owner id ≡ true → is_done unit (seen_in unit d.state) owner id ≡ true

-- A run that was started stays started, since the same moment.
abbrev pub StartStays : Type 0
StartStays =
    (unit : Unit) (s : RunState) (store : GlobalValues) (moment : ℤ) (asked : RunCommand) (d : DoneCommand)
    (value : Datum)
    → run_step unit s store moment asked ≡ Ok d → s.cells Started ≡ Some value → d.state.cells Started ≡ Some value

-- The moment at which a person of the run first opened an activity stays.
abbrev pub OpeningStays : Type 0
OpeningStays =
    (unit : Unit) (s : RunState) (store : GlobalValues) (moment : ℤ) (asked : RunCommand) (d : DoneCommand)
    (thing : ℕ) (owner : Owner) (value : Datum)
    → run_step unit s store moment asked ≡ Ok d → HasOwner s owner
    → s.cells (opened_cell thing owner) ≡ Some value → d.state.cells (opened_cell thing owner) ≡ Some value

-- A run never goes back in time: a command that is done is not before the last moment of its run, and its own
-- moment is the last one then.
abbrev pub TimeGoesOn : Type 0
TimeGoesOn =
    (unit : Unit) (s : RunState) (store : GlobalValues) (moment : ℤ) (asked : RunCommand) (d : DoneCommand)
    → run_step unit s store moment asked ≡ Ok d
    → (int_lt moment (last_moment s) ≡ false) × (d.state.cells Now ≡ Some (moment_datum moment))

-- ---- what does not happen

-- In a run that is not started no rule has said yes, no act and no activity was opened, and no notice was sent.
abbrev pub NothingBeforeTheStart : Type 0
NothingBeforeTheStart = (unit : Unit) (s : RunState) → IsReached unit s → is_started s ≡ false → IsUntouched s

-- A command that leaves its run unstarted keeps the moment, takes in the store's values and makes its own direct
-- change; no rule fires.
abbrev pub UnstartedChangesAlone : Type 0
UnstartedChangesAlone =
    (unit : Unit) (s : RunState) (store : GlobalValues) (moment : ℤ) (asked : RunCommand) (d : DoneCommand)
    → run_step unit s store moment asked ≡ Ok d → is_started d.state ≡ false
    → d.state ≡ directly_changed unit store (taking_in unit store (at_moment s moment)) moment d.command

-- So does a command that tells of no turns, in a run that is started too.
abbrev pub NoTurnsNoFiring : Type 0
NoTurnsNoFiring =
    (unit : Unit) (s : RunState) (store : GlobalValues) (moment : ℤ) (asked : RunCommand) (d : DoneCommand)
    → run_step unit s store moment asked ≡ Ok d → d.turns ≡ 0
    → d.state ≡ directly_changed unit store (taking_in unit store (at_moment s moment)) moment d.command
