use Rattle.ld_laws.proofs.SeatedLaws.{opened_act_stays}
use Rattle.ld_laws.proofs.acts.opened_act_stays.Goals as goal

pub returns : goal.returns
returns c = opened_act_stays
