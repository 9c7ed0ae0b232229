use Rattle.std.proofs.Common.{refl}
use Rattle.ld_world.proofs.world.World.new.Goals as goal

pub returns : goal.returns
returns c = rw (c.new.ensures.items, c.new-2.ensures, c.new-3.ensures.empty) refl
