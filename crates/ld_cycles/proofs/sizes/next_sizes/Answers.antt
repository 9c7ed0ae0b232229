use Rattle.std.proofs.Common.{map, arith, refl}
use Rattle.std.proofs.lemmas.List.{length-map}
use Rattle.std.proofs.lemmas.List.FromFn.{map-range_with_len_more}
use Rattle.ld_cycles.proofs.Rounds.{size_read, size_after, round_done}
use Rattle.ld_cycles.proofs.sizes.next_sizes.Goals as goal

pub loop-node-preserved : goal.loop-node-preserved
loop-node-preserved c =
    let own = c.args.own.now in
    let edges = c.args.edges.now in
    let sizes = c.args.sizes.now in
    let node = c.loop-node.node in
    let pushed = rw c.in_ok-push.was at c.push.ensures.items in
    let read = size_read (λ next. next.items) own edges sizes node c.index-edges-node.result (omega (arith, c.loop-node-test.true, c.requires)) c.loop-node-test.true c.index-edges-node.is in
    let more = map-range_with_len_more (size_after own (map (λ next. next.items) edges) sizes) 0 node node (omega arith) in
    rw (pushed, c.loop-node.invariant, c.size_from.ensures, c.deref.ensures.value, read, more) refl

pub returns : goal.returns
returns c g k is are =
    let graph = map (λ next. next.items) c.args.edges.now in
    let count = length-map c.args.edges.now (λ next. next.items) in
    rw is (round_done c.args.own.now graph c.args.sizes.now c.loop-node.next.items k c.loop-node.node (omega (arith, count, c.requires)) (omega (arith, count, c.loop-node-test.false, c.loop-node.auto.node-end)) (rw is at are) c.loop-node.invariant)
