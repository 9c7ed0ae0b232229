use Rattle.ld_laws.proofs.LawsTree.{open_is_not_done}
use Rattle.ld_laws.proofs.trees.open_is_not_done.Goals as goal

pub returns : goal.returns
returns c = open_is_not_done
