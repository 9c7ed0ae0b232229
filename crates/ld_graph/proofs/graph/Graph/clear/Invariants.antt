use Rattle.ld_graph.proofs.Changing.{EmptyBelow}
use Rattle.ld_graph.proofs.graph.Graph.clear.Given as goal

abbrev pub invariant-loop-site : goal.invariant-loop-site
invariant-loop-site l = EmptyBelow l.fn.self l.self l.site
