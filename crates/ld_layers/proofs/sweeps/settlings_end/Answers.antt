use Rattle.ld_layers.proofs.Calm.{never_passes}
use Rattle.ld_layers.proofs.sweeps.settlings_end.Goals as goal

pub returns : goal.returns
returns g c rank turns ranked = never_passes g.G.Sites.system rank ranked turns
