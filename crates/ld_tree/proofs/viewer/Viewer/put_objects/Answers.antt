use Rattle.std.proofs.Common.{arith}
use Rattle.std.proofs.lemmas.Grind.{common_steps}
use Rattle.ld_tree.proofs.Told.{stops}
use Rattle.ld_tree.proofs.viewer.Viewer.put_objects.Goals as goal

pub returns-in_err-put_object-clause-tells : goal.returns-in_err-put_object-clause-tells
returns-in_err-put_object-clause-tells g c =
    grind (arith, common_steps, stops, c.in_err-put_object.ensures.tells, c.loop-object.invariant.told, c.from_residual.ensures.1)
