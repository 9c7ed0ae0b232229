use Rattle.std.proofs.Common.{arith}
use Rattle.std.proofs.lemmas.Grind.{common_steps}
use Rattle.ld_rank.proofs.Told.{stops}
use Rattle.ld_rank.proofs.looks.put_act.Goals as goal

pub returns-in_err-put_act_opened : goal.returns-in_err-put_act_opened
returns-in_err-put_act_opened g c =
    grind (arith, common_steps, stops, c.in_err-put_act_opened.ensures, c.from_residual.ensures.1)
