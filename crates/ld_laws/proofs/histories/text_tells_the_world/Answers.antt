use Rattle.ld_world.proofs.LawsReplies.{written_text_tells_the_world}
use Rattle.ld_laws.proofs.histories.text_tells_the_world.Goals as goal

pub returns : goal.returns
returns c = written_text_tells_the_world
