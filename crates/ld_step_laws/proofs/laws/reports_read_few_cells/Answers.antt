use Rattle.ld_step_laws.proofs.FewSteps.{reports_few}
use Rattle.ld_step_laws.proofs.laws.reports_read_few_cells.Goals as goal

pub returns : goal.returns
returns c unit valid = reports_few unit valid
