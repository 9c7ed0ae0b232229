use Rattle.std.proofs.Common.{◌≡◌, map}
use Rattle.std.specs.List.{range_with_len}
use Rattle.ld_cycles.proofs.Rounds.{size_after}
use Rattle.ld_cycles.proofs.sizes.next_sizes.Given as goal

abbrev pub invariant-loop-node : goal.invariant-loop-node
invariant-loop-node l = l.next.items ≡ map (size_after l.own (map (λ next. next.items) l.edges) l.sizes) (range_with_len 0 l.node)
