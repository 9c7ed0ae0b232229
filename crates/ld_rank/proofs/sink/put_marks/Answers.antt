use Rattle.std.proofs.Common.{arith}
use Rattle.std.proofs.lemmas.Grind.{common_steps}
use Rattle.ld_rank.proofs.Told.{stops}
use Rattle.ld_rank.proofs.sink.put_marks.Goals as goal

pub returns-in_err-put_mark : goal.returns-in_err-put_mark
returns-in_err-put_mark g c =
    grind (arith, common_steps, stops, c.in_err-put_mark.ensures, c.loop-id.invariant, c.from_residual.ensures.1)
