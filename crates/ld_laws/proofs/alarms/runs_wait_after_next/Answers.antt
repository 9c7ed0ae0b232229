use Rattle.ld_laws.proofs.LawsAlarms.{runs_wait}
use Rattle.ld_laws.proofs.alarms.runs_wait_after_next.Goals as goal

pub returns : goal.returns
returns c = runs_wait
