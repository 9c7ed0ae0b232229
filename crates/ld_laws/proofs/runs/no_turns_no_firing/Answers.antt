use Rattle.ld_laws.proofs.LawsUnmoved.{no_turns_step}
use Rattle.ld_laws.proofs.runs.no_turns_no_firing.Goals as goal

pub returns : goal.returns
returns c = no_turns_step
