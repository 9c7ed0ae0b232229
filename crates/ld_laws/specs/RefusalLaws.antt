-- For what a command is refused.
use Rattle.std.specs.Prelude.{◌≡◌, ℤ}
use Rattle.ld_model.specs.declared.unit.Unit.{Unit}
use Rattle.ld_lines.specs.declared.command.RunCommand.{RunCommand}
use Rattle.ld_state.specs.RunState.{RunState}
use Rattle.ld_admission.specs.Causes.{causes, first_cause, refusal_in}
use Rattle.ld_admission.specs.Checks.{admitted}

-- The checks of a command refuse it for the first of its causes, in their order, and admit it where there is none.
abbrev pub FirstCauseRefuses : Type 0
FirstCauseRefuses =
    (unit : Unit) (s : RunState) (moment : ℤ) (asked : RunCommand)
    → refusal_in (admitted unit s moment asked) ≡ first_cause (causes unit s moment asked)
