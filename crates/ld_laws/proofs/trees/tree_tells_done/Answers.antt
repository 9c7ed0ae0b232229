use Rattle.ld_laws.proofs.LawsTree.{tree_tells_done}
use Rattle.ld_laws.proofs.trees.tree_tells_done.Goals as goal

pub returns : goal.returns
returns c = tree_tells_done
