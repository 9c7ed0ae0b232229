use Rattle.std.proofs.Common.{rules}
use Rattle.ld_graph.proofs.Meeting.{readers_read}
use Rattle.ld_graph.proofs.graph.Graph.readers.Goals as goal

pub returns-clause-sites : goal.returns-clause-sites
returns-clause-sites c =
    let met = readers_read c.self.invariant c.args.self.now c.self.view_is c.args.slot c.requires c.deref.result.now c.deref.ensures.value c.index.result.now c.len.result c.index.ensures (search rules) in
    met.members

pub returns-clause-once : goal.returns-clause-once
returns-clause-once c =
    let met = readers_read c.self.invariant c.args.self.now c.self.view_is c.args.slot c.requires c.deref.result.now c.deref.ensures.value c.index.result.now c.len.result c.index.ensures (search rules) in
    met.once

pub returns-clause-range : goal.returns-clause-range
returns-clause-range c =
    let met = readers_read c.self.invariant c.args.self.now c.self.view_is c.args.slot c.requires c.deref.result.now c.deref.ensures.value c.index.result.now c.len.result c.index.ensures (search rules) in
    met.within
