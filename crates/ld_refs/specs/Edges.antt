-- What the program's graphs stand for.
use Rattle.std.specs.Prelude.{ℕ, List, map}
use Rattle.std.specs.Global.{Vec}
use Rattle.ld_cycles.specs.Graphs.{Graph}

-- Each node leads to the numbers that stand in its own list.
abbrev pub edges_of : List (Vec ℕ) → Graph
edges_of edges = map (λ next. next.items) edges
