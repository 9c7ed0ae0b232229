use Rattle.std.proofs.Common.{rules}
use Rattle.ld_graph.proofs.Written.{before_written}
use Rattle.ld_graph.proofs.edge.set_before.Goals as goal

pub returns : goal.returns
returns c = before_written c.args.edges.now.items c.args.at c.index-edge.result.now c.args.before (search rules) (search rules)
