use Rattle.std.proofs.Common.{◌≡◌, ◌+◌, ◌≤◌, suc, Some, true, map, slice_get, length, sym, ◌∙◌, arith, nat_eq}
use Rattle.std.proofs.lemmas.Grind.{common_steps}
use Rattle.std.proofs.lemmas.List.{length-map}
use Rattle.std.proofs.lemmas.Option.{gets}
use Rattle.std.specs.List.{list_any, list_all}
use Rattle.ld_cycles.specs.Graphs.{next_of}
use Rattle.ld_cycles.proofs.CycleLaws.{is_near, all_at, all_near_still, next_near, one_step_on, more_steps}
use Rattle.ld_cycles.proofs.cycles.way_back.leads_back.Goals as goal

pub returns-then-contains : goal.returns-then-contains
returns-then-contains c = λ found.
    let g = map (λ next. next.items) c.args.edges.now in
    let nodes = length-map c.args.edges.now (λ next. next.items) in
    let reached : slice_get c.loop-at.reached.items c.loop-at.at ≡ Some c.in-Some.node = grind (arith, common_steps, gets) in
    let near = all_at (λ node. is_near g c.loop-at.at c.args.start node) c.loop-at.reached.items c.loop-at.at c.in-Some.node c.loop-at.invariant reached in
    let edge : list_any (λ x. nat_eq x c.args.start) (next_of g c.in-Some.node) ≡ true = rw (← c.next_of-next.ensures) (sym c.contains.ensures.value ∙ c.if-contains.true) in
    let few : suc c.loop-at.at ≤ length g = omega (arith, nodes, c.loop-at-test.true) in
    more_steps g (suc c.loop-at.at) (length g) c.args.start c.args.start few (one_step_on g c.loop-at.at c.args.start c.in-Some.node c.args.start near edge)

pub loop-at-preserved : goal.loop-at-preserved
loop-at-preserved c =
    let g = map (λ next. next.items) c.args.edges.now in
    let reached : slice_get c.loop-at.reached.items c.loop-at.at ≡ Some c.in-Some.node = grind (arith, common_steps, gets) in
    let near = all_at (λ node. is_near g c.loop-at.at c.args.start node) c.loop-at.reached.items c.loop-at.at c.in-Some.node c.loop-at.invariant reached in
    let still = all_near_still g c.loop-at.at c.args.start c.loop-at.reached.items c.loop-at.invariant in
    let next : list_all (λ node. is_near g (c.loop-at.at + 1) c.args.start node) c.next_of-next.result.now ≡ true = rw c.next_of-next.ensures (next_near g c.loop-at.at c.args.start c.in-Some.node near) in
    c.reach.ensures (λ node. is_near g (c.loop-at.at + 1) c.args.start node) still next
