use Rattle.std.proofs.Common.{◌≡◌, ◌<◌, ◌≤◌, ℕ, false, length, map}
use Rattle.ld_cycles.specs.Graphs.{IsNext, number_or_zero_at}
use Rattle.ld_layers.specs.Raising.{AreLow}
use Rattle.ld_layers.proofs.layers.raise_all.Given as goal

abbrev pub invariant-loop-node : goal.invariant-loop-node
invariant-loop-node l = record {
  low : AreLow (map (λ next. next.items) l.edges) l.numbers;
  grow : (b : ℕ) → number_or_zero_at l.fn.numbers b ≤ number_or_zero_at l.numbers b;
  rise : (a b : ℕ) → a < l.node → b < length l.edges → IsNext (map (λ next. next.items) l.edges) a b → number_or_zero_at l.fn.numbers a < number_or_zero_at l.numbers b;
  still : l.raised ≡ false → l.numbers ≡ l.fn.numbers;
}
