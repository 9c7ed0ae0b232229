use Rattle.ld_top.proofs.Completing.{folders_publish_one_thing}
use Rattle.ld_top.proofs.laws.folders_publish_one_thing.Goals as goal

pub returns : goal.returns
returns c = folders_publish_one_thing
