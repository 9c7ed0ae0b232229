use Rattle.std.proofs.Common.{length, sym, ap, ◌∙◌, arith}
use Rattle.ld_graph.proofs.Meeting.{met_first}
use Rattle.ld_graph.proofs.readers.ReadersIterator.next.Goals as goal

pub returns-clause-steps : goal.returns-clause-steps
returns-clause-steps c =
    let s = c.self.inside in
    let e = c.in_ok-edge.edge.now in
    let some = c.if-self-eq0.false in
    let found = c.in_ok-edge.ensures.lookup.3 in
    sym c.self.view_is ∙ met_first s.edges.now s.at s.left e (omega arith) found.0 (found.1 e)

pub returns-clause-goes : goal.returns-clause-goes
returns-clause-goes c =
    let s = c.self.inside in
    let e = c.in_ok-edge.edge.now in
    let fewer = ap length (returns-clause-steps c) in
    record { on = λ finite. (tt, tt, omega arith); keeps = tt; rests = λ finite. tt }
