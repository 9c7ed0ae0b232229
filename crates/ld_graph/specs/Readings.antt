use Rattle.std.specs.Prelude.{ℕ, suc, zero, cond, ltb, List, [], ◌∷◌, length, get_or, map}
use Rattle.ld_graph.specs.declared.edge.Edge.{Edge}
use Rattle.ld_graph.specs.Linked.{none_at}
use Rattle.ld_graph.specs.Columns.{edge_sites, nexts_of}

-- the edges that one meets along the links, at most `left` of them
abbrev pub walk : ℕ → List ℕ → ℕ → List ℕ
walk zero next at = []
walk (suc left) next at = cond (ltb at (length next)) (at ∷ walk left next (get_or next at none_at)) []

-- the sites of the edges that one meets so
abbrev pub sites_met : List Edge → ℕ → ℕ → List ℕ
sites_met edges at left = map (λ e. get_or (edge_sites edges) e none_at) (walk left (nexts_of edges) at)
