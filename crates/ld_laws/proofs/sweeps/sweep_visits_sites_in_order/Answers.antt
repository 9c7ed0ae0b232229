use Rattle.ld_laws.proofs.SeatedLaws.{sweep_visits_sites_in_order}
use Rattle.ld_laws.proofs.sweeps.sweep_visits_sites_in_order.Goals as goal

pub returns : goal.returns
returns c = sweep_visits_sites_in_order
