use Rattle.ld_laws.proofs.LawsJoining.{joining_is_not_seen}
use Rattle.ld_laws.proofs.trees.joining_is_not_seen.Goals as goal

pub returns : goal.returns
returns c = joining_is_not_seen
