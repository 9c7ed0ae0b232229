use Rattle.std.proofs.Common.{rules, length}
use Rattle.ld_graph.proofs.Graphs.{seen_sites}
use Rattle.ld_graph.proofs.graph.Graph.sites.Goals as goal

pub returns : goal.returns
returns c =
    let n = seen_sites c.self.inside.edges.items (length c.self.inside.site_firsts.items) (length c.self.inside.firsts.items) c.self.inside.spare c.args.self.now c.self.view_is in
    search rules
