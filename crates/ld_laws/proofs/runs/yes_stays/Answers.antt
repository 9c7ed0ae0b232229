use Rattle.ld_laws.proofs.LawsLatching.{step_latches}
use Rattle.ld_laws.proofs.runs.yes_stays.Goals as goal

pub returns : goal.returns
returns c = step_latches
