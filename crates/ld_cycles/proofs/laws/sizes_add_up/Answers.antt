use Rattle.ld_cycles.proofs.Bounded.{add_up}
use Rattle.ld_cycles.proofs.laws.sizes_add_up.Goals as goal

pub returns : goal.returns
returns c own g = add_up own g
