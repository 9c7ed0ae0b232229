use Rattle.std.proofs.Common.{arith}
use Rattle.std.proofs.lemmas.Grind.{common_steps}
use Rattle.ld_tree.proofs.Told.{stops}
use Rattle.ld_tree.proofs.viewer.Viewer.put_content.Goals as goal

pub returns-in_err-put_row-clause-tells : goal.returns-in_err-put_row-clause-tells
returns-in_err-put_row-clause-tells g c =
    grind (arith, common_steps, stops, c.in_ok-put_environments.ensures.tells, c.in_err-put_row.ensures.tells, c.from_residual-in_err-put_row.ensures.1)
