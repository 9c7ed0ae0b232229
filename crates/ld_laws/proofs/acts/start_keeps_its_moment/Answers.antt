use Rattle.ld_laws.proofs.LawsStart.{start_starts}
use Rattle.ld_laws.proofs.acts.start_keeps_its_moment.Goals as goal

pub returns : goal.returns
returns c = start_starts
