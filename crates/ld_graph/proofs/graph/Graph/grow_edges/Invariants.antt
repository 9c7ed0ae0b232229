use Rattle.std.proofs.Common.{◌-◌}
use Rattle.ld_graph.specs.Edges.{Grows}
use Rattle.ld_graph.proofs.graph.Graph.grow_edges.Given as goal

abbrev pub invariant-edges : goal.invariant-edges
invariant-edges l = Grows l.fn.self l.self

abbrev pub decreases-edges : goal.decreases-edges
decreases-edges l = l.edges - l.self.spare
