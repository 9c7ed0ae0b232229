use Rattle.ld_graph.specs.Buckets.{Emptied}
use Rattle.ld_graph.proofs.slots.empty_buckets.Given as goal

abbrev pub invariant-loop-slot : goal.invariant-loop-slot
invariant-loop-slot l = Emptied l.slots l.fn.heads.items l.heads.items l.slot-index
