use Rattle.ld_laws.proofs.SeatedLaws.{acts_open_by_their_rules}
use Rattle.ld_laws.proofs.acts.acts_open_by_their_rules.Goals as goal

pub returns : goal.returns
returns c = acts_open_by_their_rules
