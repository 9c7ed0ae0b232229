-- What is so of a run before and after each command, and of what it is asked.
use Rattle.std.specs.Prelude.{ℤ}
use Rattle.ld_value.specs.Calendar.{IsMoment}
use Rattle.ld_model.specs.declared.unit.Unit.{Unit}
use Rattle.ld_state.specs.RunState.{RunState}
use Rattle.ld_firing.specs.RunSystem.{IsSoundRun}
use Rattle.ld_settling.specs.RunLinking.{RunWiring}
use Rattle.ld_sharing.specs.Fitting.{HasFittingGlobals}
use Rattle.ld_replies.specs.Printing.{AreNoticesOf}
use Rattle.ld_admission.specs.AdmittedView.{IsPossible}
use Rattle.ld_admission.specs.Commands.{Admitted}
use Rattle.ld_run.specs.FittingCommands.{WritesFitting}
use Rattle.ld_run.specs.Linked.{HasLinks}

-- The run is sound, the values of its global properties fit, and its notices can be told.
pub record IsInOrder (unit : Unit) (s : RunState) : Type 0 where
  pub sound : IsSoundRun unit s
  pub fitting : HasFittingGlobals unit s
  pub notices : AreNoticesOf unit s.outbox

-- The run is in order, and the links are those of its sites.
pub record IsRunning (unit : Unit) (s : RunState) (links : RunWiring) : Type 0 where
  pub order : IsInOrder unit s
  pub linked : HasLinks unit s links

-- The checks have admitted the command at the moment, and what it writes fits.
pub record MayBeDone (unit : Unit) (s : RunState) (moment : ℤ) (command : Admitted) : Type 0 where
  pub dated : IsMoment moment
  pub possible : IsPossible unit s command
  pub writes : WritesFitting unit command
