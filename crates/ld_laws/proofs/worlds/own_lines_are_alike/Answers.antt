use Rattle.ld_world.proofs.Isolation.{own_line_is_alike}
use Rattle.ld_laws.proofs.worlds.own_lines_are_alike.Goals as goal

pub returns : goal.returns
returns c = own_line_is_alike
