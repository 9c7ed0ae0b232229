use Rattle.std.proofs.Common.{arith}
use Rattle.std.proofs.lemmas.Grind.{common_steps}
use Rattle.ld_tree.proofs.Told.{stops}
use Rattle.ld_tree.proofs.viewer.Viewer.+environments.Goals as goal

pub put_further-returns-in_err-put_environment-clause-tells :
    goal.put_further-returns-in_err-put_environment-clause-tells
put_further-returns-in_err-put_environment-clause-tells g t c =
    grind (arith, common_steps, stops, c.in_err-put_environment.ensures.tells, c.loop-id.invariant.told, c.from_residual.ensures.1)

pub put_within-returns-in_err-put_services-clause-tells :
    goal.put_within-returns-in_err-put_services-clause-tells
put_within-returns-in_err-put_services-clause-tells g t c =
    grind (arith, common_steps, stops, c.in_ok-put.ensures, c.in_ok-put_objects.ensures.tells, c.in_err-put_services.ensures.tells, c.from_residual-in_err-put_services.ensures.1)
