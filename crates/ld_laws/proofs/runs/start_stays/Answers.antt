use Rattle.ld_laws.proofs.LawsOpenings.{step_leaves_start}
use Rattle.ld_laws.proofs.runs.start_stays.Goals as goal

pub returns : goal.returns
returns c = step_leaves_start
