use Rattle.std.proofs.Common.{◌||◌, false, nat_eq, slice_get}
use Rattle.std.specs.List.{list_any}
use Rattle.std.specs.Option.{unwrap_or}
use Rattle.ld_cycles.proofs.CycleLaws.{told_more}
use Rattle.ld_cycles.proofs.cycles.by_search.one_step_more.Goals as goal

pub loop-next-preserved : goal.loop-next-preserved
loop-next-preserved c =
    let told = rw c.deref.ensures.value at c.any_leads.ensures in
    let more = told_more (λ next. list_any (λ node. nat_eq node c.args.end || unwrap_or (slice_get c.args.leading.now node) false) next.items) c.args.edges.now c.loop-next.next-index c.next-item.result c.loop-next.more.items c.any_leads.result c.loop-next-test.true c.next-item.is c.loop-next.invariant told in
    rw c.in_ok-push.ensures.items more
