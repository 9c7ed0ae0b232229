use Rattle.ld_laws.proofs.SeatedLaws.{persons_have_seats}
use Rattle.ld_laws.proofs.sweeps.persons_have_seats.Goals as goal

pub returns : goal.returns
returns c = persons_have_seats
