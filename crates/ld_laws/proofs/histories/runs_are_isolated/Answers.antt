use Rattle.ld_laws.proofs.AlikeHistories.{runs_are_isolated}
use Rattle.ld_laws.proofs.histories.runs_are_isolated.Goals as goal

pub returns : goal.returns
returns c = runs_are_isolated
