use Rattle.ld_world.proofs.Isolation.{others_leave_it}
use Rattle.ld_laws.proofs.worlds.others_leave_a_run.Goals as goal

pub returns : goal.returns
returns c = others_leave_it
