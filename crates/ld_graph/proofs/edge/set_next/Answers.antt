use Rattle.std.proofs.Common.{rules}
use Rattle.ld_graph.proofs.Written.{next_written}
use Rattle.ld_graph.proofs.edge.set_next.Goals as goal

pub returns : goal.returns
returns c = next_written c.args.edges.now.items c.args.at c.index-edge.result.now c.args.next (search rules) (search rules)
