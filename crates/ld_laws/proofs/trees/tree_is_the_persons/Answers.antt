use Rattle.ld_laws.proofs.SameTrees.{tree_is_the_persons}
use Rattle.ld_laws.proofs.trees.tree_is_the_persons.Goals as goal

pub returns : goal.returns
returns c = tree_is_the_persons
