use Rattle.std.proofs.Common.{◌≡◌, take}
use Rattle.ld_rank.proofs.ranks.ranks_from.Given as goal

abbrev pub invariant-loop-layer : goal.invariant-loop-layer
invariant-loop-layer l = l.ranks ≡ take l.layer-index l.layers
