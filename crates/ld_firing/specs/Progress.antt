-- How far a firing has come: as the program has it, and as it is meant.
use Rattle.std.specs.Prelude.{◌≡◌, ℕ, List, ◌++◌}
use Rattle.ld_base.specs.declared.fired.Fired.{Fired}
use Rattle.ld_model.specs.declared.unit.Unit.{Unit}
use Rattle.ld_firing.specs.Actions.{Doing}
use Rattle.ld_firing.specs.RunSystem.{slots_named}
use Rattle.ld_state.specs.RunState.{RunState}
use Rattle.ld_state.specs.StateView.{StateView, run_of}

-- The run, the slots that were told, how many changes were rejected, and how many notices were sent.
pub record Progress : Type 0 where
  pub run : RunState
  pub told : List ℕ
  pub rejected : ℕ
  pub sent : ℕ

-- As the program has it.
abbrev pub progress_of : StateView → List ℕ → Fired → Progress
progress_of s told fired =
    record { run = run_of s; told = told; rejected = fired.rejected; sent = fired.sent }

-- As it is meant, where these slots were told before.
abbrev pub progress_by : Unit → List ℕ → Doing → Progress
progress_by unit before doing = record {
  run = doing.state;
  told = before ++ slots_named unit doing.state doing.changes;
  rejected = doing.rejected;
  sent = doing.sent;
}

-- Whatever was done before, between the two just this was done.
pub record Does (unit : Unit) (old new : Progress) (step : Doing → Doing) : Type 0 where
  pub each :
      (before : List ℕ) (doing : Doing) → old ≡ progress_by unit before doing
      → new ≡ progress_by unit before (step doing)
