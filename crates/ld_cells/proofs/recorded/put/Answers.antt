use Rattle.ld_cells.proofs.Backwards.{cells_of-set}
use Rattle.ld_cells.proofs.recorded.put.Goals as goal

pub returns-clause-cells : goal.returns-clause-cells
returns-clause-cells c = cells_of-set _ _ _
