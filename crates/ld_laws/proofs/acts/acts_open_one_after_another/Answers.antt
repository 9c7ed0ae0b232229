use Rattle.ld_laws.proofs.LawsOrder.{acts_open_in_order}
use Rattle.ld_laws.proofs.acts.acts_open_one_after_another.Goals as goal

pub returns : goal.returns
returns c = acts_open_in_order
