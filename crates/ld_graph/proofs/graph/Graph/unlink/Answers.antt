use Rattle.ld_graph.proofs.Changing.{changes_none, changes_then}
use Rattle.ld_graph.proofs.graph.Graph.unlink.Goals as goal

pub edges-init : goal.edges-init
edges-init c = changes_none c.args.self.now c.args.site

pub edges-preserved : goal.edges-preserved
edges-preserved c = changes_then c.edges.invariant (c.take_off.ensures.some c.edges-test.true) c.requires
