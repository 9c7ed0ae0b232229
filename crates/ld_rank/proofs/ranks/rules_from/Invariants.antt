use Rattle.std.proofs.Common.{◌≡◌, map, take}
use Rattle.ld_rank.proofs.ranks.rules_from.Given as goal

abbrev pub invariant-loop-node : goal.invariant-loop-node
invariant-loop-node l = map (λ rule. rule.0) l.rules ≡ take l.node-index l.nodes
