use Rattle.ld_laws.proofs.LawsUnstarted.{untouched_until_started}
use Rattle.ld_laws.proofs.runs.nothing_before_the_start.Goals as goal

pub returns : goal.returns
returns c = untouched_until_started
