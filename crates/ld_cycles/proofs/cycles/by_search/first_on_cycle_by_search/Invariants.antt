use Rattle.std.proofs.Common.{◌≡◌, ℕ, ◌<◌, false, map}
use Rattle.ld_cycles.specs.Graphs.{is_on_cycle}
use Rattle.ld_cycles.proofs.cycles.by_search.first_on_cycle_by_search.Given as goal

abbrev pub invariant-loop-node : goal.invariant-loop-node
invariant-loop-node l = (k : ℕ) → k < l.node → is_on_cycle (map (λ next. next.items) l.edges) k ≡ false
