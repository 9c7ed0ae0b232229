use Rattle.ld_laws.proofs.LawsOpenings.{step_leaves_opening}
use Rattle.ld_laws.proofs.runs.opening_stays.Goals as goal

pub returns : goal.returns
returns c = step_leaves_opening
