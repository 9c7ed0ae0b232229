-- What the next alarm of a run says of the ticks that come after it.
use Rattle.std.specs.Prelude.{◌≡◌, ◌⊎◌, ◌<◌, ℕ, ℤ, pos, ◌+ℤ◌, ◌≤ℤ◌, Ok, Err, Some, true, false}
use Rattle.ld_value.specs.Datum.{moment_datum}
use Rattle.ld_model.specs.declared.cell.CellName.TheVariants.{Now}
use Rattle.ld_model.specs.declared.unit.Unit.{Unit}
use Rattle.ld_lines.specs.declared.command.RunCommand.TheVariants.{Tick, Next}
use Rattle.ld_refs.specs.Checks.{IsValid}
use Rattle.ld_state.specs.GlobalValues.{GlobalValues}
use Rattle.ld_state.specs.RunState.{RunState}
use Rattle.ld_alarm.specs.Later.{IsBefore, latest_moment}
use Rattle.ld_alarm.specs.NextAlarm.{next_alarm, some_due}
use Rattle.ld_sharing.specs.Globals.{taking_in}
use Rattle.ld_admission.specs.Checks.{is_started}
use Rattle.ld_admission.specs.Refusals.{TurnBudget}
use Rattle.ld_run.specs.RunStep.{DoneCommand, at_moment, run_step}
use Rattle.ld_laws.specs.RunLaws.{ComesTo}

-- The store has the run's values of its global properties: there is nothing to take in.
abbrev pub HasItsValues : Unit → GlobalValues → RunState → Type 0
HasItsValues unit store s = taking_in unit store s ≡ s

-- The test of no site differs from its mark.
abbrev pub IsAtRest : Unit → RunState → Type 0
IsAtRest unit s = some_due unit s ≡ false

-- A run is started and at rest, this is its last moment, and the store has its values.
pub record IsWaiting (unit : Unit) (store : GlobalValues) (now : ℤ) (s : RunState) : Type 0 where
  pub comes : ComesTo unit s
  pub started : is_started s ≡ true
  pub dated : s.cells Now ≡ Some (moment_datum now)
  pub rests : IsAtRest unit s
  pub given : HasItsValues unit store s

-- The next alarm of a run is a moment after its last one, and not after the latest that there is.
abbrev pub AlarmIsLater : Type 0
AlarmIsLater =
    (unit : Unit) (s : RunState) (now alarm : ℤ)
    → s.cells Now ≡ Some (moment_datum now) → next_alarm unit s ≡ Some alarm
    → ((now +ℤ pos 1) ≤ℤ alarm) × (alarm ≤ℤ latest_moment)

-- A tick of a waiting run before its next alarm, or at any moment where it has none, fires nothing: it is done and
-- keeps the moment.
abbrev pub NothingBeforeTheAlarm : Type 0
NothingBeforeTheAlarm =
    (unit : Unit) (store : GlobalValues) (s : RunState) (now moment : ℤ) → IsWaiting unit store now s
    → now ≤ℤ moment → moment ≤ℤ latest_moment → IsBefore moment (next_alarm unit s)
    → (d : DoneCommand) × (run_step unit s store moment Tick ≡ Ok d) × (d.turns ≡ 0) × (d.state ≡ at_moment s moment)

-- A tick at it fires something, or passes the budget.
abbrev pub SomethingAtTheAlarm : Type 0
SomethingAtTheAlarm =
    (unit : Unit) (store : GlobalValues) (s : RunState) (now alarm : ℤ) → IsWaiting unit store now s
    → next_alarm unit s ≡ Some alarm
    → (run_step unit s store alarm Tick ≡ Err TurnBudget)
    ⊎ ((d : DoneCommand) × (run_step unit s store alarm Tick ≡ Ok d) × (0 < d.turns))

-- After each `next` that is done its run waits, so both hold until another line of the run, or another value in the
-- store.
abbrev pub RunsWaitAfterNext : Type 0
RunsWaitAfterNext =
    (unit : Unit) (s : RunState) (store : GlobalValues) (moment : ℤ) (d : DoneCommand)
    → IsValid unit → ComesTo unit s → run_step unit s store moment Next ≡ Ok d
    → IsWaiting unit d.store moment d.state
