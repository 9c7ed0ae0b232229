use Rattle.std.proofs.Common.{arith}
use Rattle.std.proofs.lemmas.Grind.{common_steps}
use Rattle.ld_rank.proofs.Told.{stops}
use Rattle.ld_rank.proofs.writes.put_branches.Goals as goal

pub returns-in_err-put_actions : goal.returns-in_err-put_actions
returns-in_err-put_actions g c =
    grind (arith, common_steps, stops, rw c.as_slice.ensures at c.in_err-put_actions.ensures, c.from_residual.ensures.1)
