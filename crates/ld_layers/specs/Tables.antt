-- Which nodes lead to the start by exactly this many steps.
use Rattle.std.specs.Prelude.{◌≡◌, ℕ, ◌<◌, List, [], get_or, length, slice_get, Bool, true, false}
use Rattle.std.specs.Option.{unwrap_or}
use Rattle.ld_cycles.specs.Graphs.{Graph}
use Rattle.ld_layers.specs.Loops.{way_in}

-- The table names the nodes from which a way of exactly this many steps leads to the end.
abbrev pub Names : Graph → ℕ → ℕ → List Bool → Type 0
Names g steps end table = (a : ℕ) → unwrap_or (slice_get table a) false ≡ way_in g steps a end

-- A table for each number of steps from 0 on, up to one less than the shortest way from the start to itself has.
pub record AreTables (g : Graph) (start : ℕ) (tables : List (List Bool)) : Type 0 where
  pub some : 0 < length tables
  pub each : (steps : ℕ) → steps < length tables → Names g steps start (get_or tables steps [])
  pub closes : way_in g (length tables) start start ≡ true
  pub shortest : (steps : ℕ) → 0 < steps → steps < length tables → way_in g steps start start ≡ false
