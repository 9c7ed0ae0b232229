use Rattle.ld_graph.specs.Edges.{Changes}
use Rattle.ld_graph.proofs.Changing.{HasFirst}
use Rattle.ld_graph.proofs.graph.Graph.put_all.Given as goal

abbrev pub invariant-loop-slot : goal.invariant-loop-slot
invariant-loop-slot l = Changes l.fn.self l.self l.site × HasFirst l.self l.site l.items l.slot-index
