use Rattle.ld_canon.proofs.CanonicalDocuments.{documents_canonical}
use Rattle.ld_canon.proofs.Standing.{documents_stand}
use Rattle.ld_canon.proofs.units.documents.Goals as goal

pub returns-clause-stand : goal.returns-clause-stand
returns-clause-stand c = λ formed. documents_stand c.args.unit.now c.in_ok-roles.ensures.roles formed

pub returns-clause-canonical : goal.returns-clause-canonical
returns-clause-canonical c = λ formed. documents_canonical c.args.unit.now c.in_ok-roles.ensures.roles formed
