use Rattle.ld_top.proofs.Completing.{none_taken}
use Rattle.ld_top.proofs.top.ld_top.Goals as goal

pub returns-in_default-clause-at_limit : goal.returns-in_default-clause-at_limit
returns-in_default-clause-at_limit g c = λ none sink. none_taken _ _
