use Rattle.ld_layers.proofs.Calm.{fires_in_time}
use Rattle.ld_layers.proofs.sweeps.sites_fire_in_time.Goals as goal

pub returns : goal.returns
returns g c rank ranked = fires_in_time g.G.Sites.system rank ranked
