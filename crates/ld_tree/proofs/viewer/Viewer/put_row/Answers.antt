use Rattle.std.proofs.Common.{arith}
use Rattle.std.proofs.lemmas.Grind.{common_steps}
use Rattle.ld_tree.proofs.Told.{stops}
use Rattle.ld_tree.proofs.viewer.Viewer.put_row.Goals as goal

pub returns-in_err-put_numbered-clause-tells : goal.returns-in_err-put_numbered-clause-tells
returns-in_err-put_numbered-clause-tells g c =
    grind (arith, common_steps, stops, c.in_err-put_numbered.ensures.tells, c.loop-item.invariant.told, c.from_residual.ensures.1)
