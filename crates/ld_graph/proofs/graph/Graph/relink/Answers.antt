use Rattle.std.proofs.Common.{arith}
use Rattle.ld_graph.proofs.graph.Graph.relink.Goals as goal

pub put_all-requires-clause-slots : goal.put_all-requires-clause-slots
put_all-requires-clause-slots c k h =
    let below = c.requires.slots k h in
    let same = c.unlink.ensures.range.1 in
    omega arith
