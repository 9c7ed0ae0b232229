use Rattle.ld_world.proofs.Isolation.{own_line_steps}
use Rattle.ld_laws.proofs.worlds.own_lines_step.Goals as goal

pub returns : goal.returns
returns c = own_line_steps
