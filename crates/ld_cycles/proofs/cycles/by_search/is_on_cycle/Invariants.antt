use Rattle.std.proofs.Common.{map}
use Rattle.ld_cycles.proofs.CycleLaws.{TellsWithin}
use Rattle.ld_cycles.proofs.cycles.by_search.is_on_cycle.Given as goal

abbrev pub invariant-loop-steps : goal.invariant-loop-steps
invariant-loop-steps l = TellsWithin l.leading.items (map (λ next. next.items) l.edges) l._steps l.node
