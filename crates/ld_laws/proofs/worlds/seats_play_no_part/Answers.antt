use Rattle.ld_world.proofs.SeatsOfWorlds.{replies_with_more}
use Rattle.ld_laws.proofs.worlds.seats_play_no_part.Goals as goal

pub returns : goal.returns
returns c = replies_with_more
