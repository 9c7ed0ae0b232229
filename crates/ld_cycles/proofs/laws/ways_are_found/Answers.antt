use Rattle.std.proofs.Common.{length}
use Rattle.ld_cycles.proofs.Bounded.{found_way, way_found}
use Rattle.ld_cycles.proofs.laws.ways_are_found.Goals as goal

pub returns : goal.returns
returns c g a b = (found_way g (length g) a b, way_found g a b)
