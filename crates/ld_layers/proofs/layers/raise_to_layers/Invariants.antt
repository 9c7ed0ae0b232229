use Rattle.std.proofs.Common.{◌<◌, ◌≤◌, ℕ, length, map}
use Rattle.ld_cycles.specs.Graphs.{number_or_zero_at}
use Rattle.ld_layers.specs.Layers.{layer_within}
use Rattle.ld_layers.specs.Raising.{AreLow}
use Rattle.ld_layers.proofs.layers.raise_to_layers.Given as goal

abbrev pub invariant-loop : goal.invariant-loop
invariant-loop l = record {
  low : AreLow (map (λ next. next.items) l.edges) l.numbers;
  reach : (b : ℕ) → b < length l.edges → layer_within (map (λ next. next.items) l.edges) l.counter b ≤ number_or_zero_at l.numbers b;
}
