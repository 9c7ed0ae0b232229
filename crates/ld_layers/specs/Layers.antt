-- The layers of a graph without cycles: a node stands one above the highest of those that lead to it.
use Rattle.std.specs.Prelude.{◌≡◌, ℕ, zero, suc, ◌<◌, ◌≤◌, List, [], ◌∷◌, filter, length, map, max, Bool, nat_eq}
use Rattle.std.specs.List.{list_any}
use Rattle.ld_base.specs.Numbers.{numbers_below}
use Rattle.ld_cycles.specs.Graphs.{Graph, IsNext, next_of, number_or_zero_at}

-- One step leads from the first node to the second.
abbrev pub leads_on : Graph → ℕ → ℕ → Bool
leads_on g a b = list_any (λ c. nat_eq c b) (next_of g a)

-- The nodes that lead to the node by one step, in order.
abbrev pub before : Graph → ℕ → List ℕ
before g b = filter (λ a. leads_on g a b) (numbers_below (length g))

-- The greatest of what f gives for the elements, or 0 where there are none.
abbrev pub greatest : (ℕ → ℕ) → List ℕ → ℕ
greatest f [] = 0
greatest f (x ∷ xs) = max (f x) (greatest f xs)

-- The layer of a node, from 1 on, where ways of more than this many nodes are left out.
abbrev pub layer_within : Graph → ℕ → ℕ → ℕ
layer_within g zero b = 0
layer_within g (suc n) b = suc (greatest (layer_within g n) (before g b))

-- The layers of all nodes. In a graph without cycles no way has more nodes than the graph.
abbrev pub layers_of : Graph → List ℕ
layers_of g = map (layer_within g (length g)) (numbers_below (length g))

-- Each node has a number from 1 on and not above their count, less than those of the nodes to which it leads, and where the number is
-- above 1, a node whose number is one less leads to it.
pub record AreLayers (g : Graph) (layers : List ℕ) : Type 0 where
  pub each : length layers ≡ length g
  pub from_one : (b : ℕ) → b < length g → 0 < number_or_zero_at layers b
  pub few : (b : ℕ) → number_or_zero_at layers b ≤ length g
  pub rise : (a b : ℕ) → b < length g → IsNext g a b → number_or_zero_at layers a < number_or_zero_at layers b
  pub tight :
      (b : ℕ) → 1 < number_or_zero_at layers b
      → (a : ℕ) × IsNext g a b × (suc (number_or_zero_at layers a) ≡ number_or_zero_at layers b)
