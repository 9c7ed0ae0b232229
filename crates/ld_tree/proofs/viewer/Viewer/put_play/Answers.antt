use Rattle.std.proofs.Common.{arith}
use Rattle.std.proofs.lemmas.Grind.{common_steps}
use Rattle.ld_tree.proofs.Told.{stops}
use Rattle.ld_tree.proofs.viewer.Viewer.put_play.Goals as goal

pub returns-in_err-put_done_acts-clause-tells : goal.returns-in_err-put_done_acts-clause-tells
returns-in_err-put_done_acts-clause-tells g c =
    grind (arith, common_steps, stops, c.in_err-put_done_acts.ensures.tells, c.from_residual-in_err-put_done_acts.ensures.1)
