use Rattle.ld_laws.proofs.LawsJoining.{enrolment_joins_alone}
use Rattle.ld_laws.proofs.trees.enrolment_joins.Goals as goal

pub returns : goal.returns
returns c = enrolment_joins_alone
