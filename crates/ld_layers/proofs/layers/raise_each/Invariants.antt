use Rattle.std.proofs.Common.{◌≡◌, ◌<◌, ℕ, cond, drop, false, length, max, nat_eq}
use Rattle.std.specs.List.{list_any}
use Rattle.ld_cycles.specs.Graphs.{number_or_zero_at}
use Rattle.ld_layers.proofs.layers.raise_each.Given as goal

abbrev pub invariant-loop-node : goal.invariant-loop-node
invariant-loop-node l = record {
  each : length l.numbers ≡ length l.fn.numbers;
  value : (b : ℕ) → b < length l.fn.numbers → max (number_or_zero_at l.numbers b) (cond (list_any (λ node. nat_eq node b) (drop l.node-index l.nodes)) l.least 0) ≡ max (number_or_zero_at l.fn.numbers b) (cond (list_any (λ node. nat_eq node b) l.nodes) l.least 0);
  still : l.raised ≡ false → l.numbers ≡ l.fn.numbers;
}
