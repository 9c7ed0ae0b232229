use Rattle.std.proofs.Common.{arith}
use Rattle.std.proofs.lemmas.Grind.{common_steps}
use Rattle.ld_rank.proofs.Told.{stops}
use Rattle.ld_rank.proofs.writes.put_actions.Goals as goal

pub returns-in_err-put_action : goal.returns-in_err-put_action
returns-in_err-put_action g c =
    grind (arith, common_steps, stops, c.in_err-put_action.ensures, c.loop-action.invariant, c.from_residual.ensures.1)
