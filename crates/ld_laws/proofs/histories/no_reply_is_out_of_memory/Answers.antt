use Rattle.ld_world.proofs.LawsReplies.{no_reply_is_want_of_memory}
use Rattle.ld_laws.proofs.histories.no_reply_is_out_of_memory.Goals as goal

pub returns : goal.returns
returns c = no_reply_is_want_of_memory
