use Rattle.std.proofs.Common.{◌≡◌, ◌+◌, ◌≤◌, min, drop, slice_get}
use Rattle.std.specs.List.{sum_by}
use Rattle.ld_cycles.specs.Graphs.{number_or_zero}
use Rattle.ld_cycles.proofs.sizes.size_from.Given as goal

abbrev pub invariant-loop-node : goal.invariant-loop-node
invariant-loop-node l = record {
  least : l.sum ≤ 1000000;
  rest : min 1000000 (l.sum + sum_by (λ node. number_or_zero (slice_get l.sizes node)) (drop l.node-index l.next)) ≡ min 1000000 (l.own + sum_by (λ node. number_or_zero (slice_get l.sizes node)) l.next);
}
