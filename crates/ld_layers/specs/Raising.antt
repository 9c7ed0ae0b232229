-- Numbers of nodes that are raised until they are layers.
use Rattle.std.specs.Prelude.{◌≡◌, ℕ, ◌-◌, ◌^◌, ◌<◌, ◌≤◌, List, length}
use Rattle.ld_cycles.specs.Graphs.{Graph, number_or_zero_at}
use Rattle.ld_layers.specs.Layers.{layer_within}

-- Each node has a number from 1 on, and none is above the node's layer. There are so few nodes that a number
-- can be one above each.
pub record AreLow (g : Graph) (numbers : List ℕ) : Type 0 where
  pub each : length numbers ≡ length g
  pub from_one : (b : ℕ) → b < length g → 0 < number_or_zero_at numbers b
  pub low : (b : ℕ) → b < length g → number_or_zero_at numbers b ≤ layer_within g (length g) b
  pub few : length g < 2 ^ 64 - 1
