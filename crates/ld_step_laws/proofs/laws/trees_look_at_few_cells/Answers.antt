use Rattle.ld_step_laws.proofs.FewSteps.{trees_few}
use Rattle.ld_step_laws.proofs.laws.trees_look_at_few_cells.Goals as goal

pub returns : goal.returns
returns c unit seen p valid = trees_few unit seen p valid
