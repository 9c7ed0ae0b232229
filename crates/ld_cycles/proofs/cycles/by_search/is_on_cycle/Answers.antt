use Rattle.std.proofs.Common.{map}
use Rattle.ld_cycles.proofs.CycleLaws.{TellsWithin, tells_one_more}
use Rattle.ld_cycles.proofs.cycles.by_search.is_on_cycle.Goals as goal

pub loop-steps-preserved : goal.loop-steps-preserved
loop-steps-preserved c = λ a.
    let before : TellsWithin c.deref.result.now (map (λ next. next.items) c.args.edges.now) c.loop-steps._steps c.args.node = rw c.deref.ensures.value c.loop-steps.invariant in
    rw c.in_ok-leading.ensures (tells_one_more (λ next. next.items) c.args.edges.now c.deref.result.now c.loop-steps._steps c.args.node before a)
