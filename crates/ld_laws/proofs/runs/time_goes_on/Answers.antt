use Rattle.ld_world.proofs.LawsReplies.{moments_never_go_back}
use Rattle.ld_laws.proofs.runs.time_goes_on.Goals as goal

pub returns : goal.returns
returns c = moments_never_go_back
