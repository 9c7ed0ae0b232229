use Rattle.ld_laws.proofs.LawsTree.{theirs_is_mine}
use Rattle.ld_laws.proofs.trees.theirs_is_mine.Goals as goal

pub returns : goal.returns
returns c = theirs_is_mine
