use Rattle.std.proofs.Common.{arith, length}
use Rattle.ld_graph.proofs.Graphs.{seen_sites}
use Rattle.ld_graph.proofs.Meeting.{row_distinct, linked_slot}
use Rattle.ld_graph.proofs.graph.Graph.facts.Goals as goal

pub returns-clause-once : goal.returns-clause-once
returns-clause-once c = row_distinct c.self.invariant c.args.self.now c.self.view_is

pub returns-clause-slots : goal.returns-clause-slots
returns-clause-slots c k i linked = linked_slot c.self.invariant c.args.self.now c.self.view_is k i linked

pub returns-clause-sites_fit : goal.returns-clause-sites_fit
returns-clause-sites_fit c =
    let n = seen_sites c.self.inside.edges.items (length c.self.inside.site_firsts.items) (length c.self.inside.firsts.items) c.self.inside.spare c.args.self.now c.self.view_is in
    let fit = c.self.invariant.linked.sites_fit in
    omega arith
