use Rattle.ld_graph.proofs.Bucketed.{Sought}
use Rattle.ld_graph.proofs.slots.SlotList.contains.Given as goal

abbrev pub invariant-bucket : goal.invariant-bucket
invariant-bucket l = Sought l.self-inside.slots.items l.self-inside.heads.items l.slot l.link

abbrev pub decreases-bucket : goal.decreases-bucket
decreases-bucket l = l.link
