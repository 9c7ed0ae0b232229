use Rattle.ld_laws.proofs.LawsActs.{step_opens_now}
use Rattle.ld_laws.proofs.acts.act_opens_now.Goals as goal

pub returns : goal.returns
returns c = step_opens_now
