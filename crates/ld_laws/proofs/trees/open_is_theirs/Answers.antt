use Rattle.ld_laws.proofs.LawsTree.{open_is_theirs}
use Rattle.ld_laws.proofs.trees.open_is_theirs.Goals as goal

pub returns : goal.returns
returns c = open_is_theirs
