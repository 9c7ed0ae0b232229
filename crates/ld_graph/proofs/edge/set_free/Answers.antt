use Rattle.std.proofs.Common.{rules}
use Rattle.ld_graph.proofs.Written.{free_written}
use Rattle.ld_graph.proofs.edge.set_free.Goals as goal

pub returns : goal.returns
returns c = free_written c.args.edges.now.items c.args.at c.index-edge.result.now c.args.site_next (search rules) (search rules)
