use Rattle.std.proofs.Common.{arith, length}
use Rattle.ld_graph.proofs.Graphs.{seen_sites}
use Rattle.ld_graph.proofs.graph.Graph.open.Goals as goal

pub open-requires : goal.open-requires
open-requires c =
    let n = seen_sites c.self.inside.edges.items (length c.self.inside.site_firsts.items) (length c.self.inside.firsts.items) c.self.inside.spare c.args.self.now c.self.view_is in
    let within = c.requires in
    omega arith
