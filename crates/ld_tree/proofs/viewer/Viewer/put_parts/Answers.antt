use Rattle.std.proofs.Common.{arith}
use Rattle.std.proofs.lemmas.Grind.{common_steps}
use Rattle.ld_tree.proofs.Told.{stops}
use Rattle.ld_tree.proofs.viewer.Viewer.put_parts.Goals as goal

pub returns-in_err-put_part-clause-tells : goal.returns-in_err-put_part-clause-tells
returns-in_err-put_part-clause-tells g c =
    grind (arith, common_steps, stops, c.in_err-put_part.ensures.tells, c.loop-part.invariant.told, c.from_residual.ensures.1)
