use Rattle.std.proofs.Common.{◌≡◌, map}
use Rattle.ld_cycles.proofs.Rounds.{capped}
use Rattle.ld_cycles.proofs.sizes.expanded_sizes.Given as goal

abbrev pub invariant-loop : goal.invariant-loop
invariant-loop l = l.sizes.items ≡ capped l.own (map (λ next. next.items) l.edges) l.counter
