use Rattle.std.proofs.Common.{arith}
use Rattle.std.proofs.lemmas.Grind.{common_steps}
use Rattle.ld_rank.proofs.Told.{stops}
use Rattle.ld_rank.proofs.writes.put_changes.Goals as goal

pub returns-in_err-put_change : goal.returns-in_err-put_change
returns-in_err-put_change g c =
    grind (arith, common_steps, stops, c.in_err-put_change.ensures, c.loop-change.invariant, c.from_residual.ensures.1)
