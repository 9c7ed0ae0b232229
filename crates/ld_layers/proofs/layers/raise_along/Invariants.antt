use Rattle.std.proofs.Common.{map}
use Rattle.ld_layers.specs.Raising.{AreLow}
use Rattle.ld_layers.proofs.layers.raise_along.Given as goal

abbrev pub invariant-loop-node : goal.invariant-loop-node
invariant-loop-node l = AreLow (map (λ next. next.items) l.edges) l.numbers
