use Rattle.std.proofs.Common.{[], length, get_or}
use Rattle.ld_graph.specs.Edges.{Changes}
use Rattle.ld_graph.proofs.graph.Graph.unlink.Given as goal

abbrev pub invariant-edges : goal.invariant-edges
invariant-edges l = Changes l.fn.self l.self l.site

abbrev pub decreases-edges : goal.decreases-edges
decreases-edges l = length (get_or l.self.rows l.site [])
