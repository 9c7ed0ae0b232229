use Rattle.ld_laws.proofs.SeatedLaws.{every_mark_tells_its_test}
use Rattle.ld_laws.proofs.sweeps.marks_tell_tests.Goals as goal

pub returns : goal.returns
returns c = every_mark_tells_its_test
