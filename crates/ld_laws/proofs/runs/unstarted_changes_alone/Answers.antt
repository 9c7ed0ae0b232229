use Rattle.ld_laws.proofs.LawsUnmoved.{unstarted_step}
use Rattle.ld_laws.proofs.runs.unstarted_changes_alone.Goals as goal

pub returns : goal.returns
returns c = unstarted_step
