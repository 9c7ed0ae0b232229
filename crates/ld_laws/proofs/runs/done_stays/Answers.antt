use Rattle.ld_laws.proofs.LawsDone.{step_leaves_done}
use Rattle.ld_laws.proofs.runs.done_stays.Goals as goal

pub returns : goal.returns
returns c = step_leaves_done
