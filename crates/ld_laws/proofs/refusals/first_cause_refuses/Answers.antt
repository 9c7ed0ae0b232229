use Rattle.ld_admission.proofs.LawsRefused.{refused_by_first}
use Rattle.ld_laws.proofs.refusals.first_cause_refuses.Goals as goal

pub returns : goal.returns
returns c = refused_by_first
