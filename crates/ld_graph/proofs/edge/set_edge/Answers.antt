use Rattle.ld_graph.proofs.Written.{edge_written}
use Rattle.ld_graph.proofs.edge.set_edge.Goals as goal

pub returns : goal.returns
returns c = edge_written c.args.edges.now.items c.args.at c.args.edge
