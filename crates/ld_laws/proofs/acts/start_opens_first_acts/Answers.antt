use Rattle.ld_laws.proofs.SeatedLaws.{start_opens_first_acts}
use Rattle.ld_laws.proofs.acts.start_opens_first_acts.Goals as goal

pub returns : goal.returns
returns c = start_opens_first_acts
