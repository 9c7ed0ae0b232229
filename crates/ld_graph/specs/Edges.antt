use Rattle.std.specs.Prelude.{◌≡◌, ℕ, ◌+◌, ◌≤◌, Bool, true, List, [], Contains, get_or, set, length, sum_by}
use Rattle.ld_graph.specs.Table.{has}

-- what callers see of a graph: the slots of each site, how many slots are in range, how many edges
-- there is room for, and which sites are open, as those are that can be given edges
pub record Edges : Type 0 where
  pub rows : List (List ℕ)
  pub slots : ℕ
  pub spare : ℕ
  pub opened : List Bool

-- the pair of a slot and a site is an edge
abbrev pub IsLinked : Edges → ℕ → ℕ → Type 0
IsLinked edges slot site = Contains (get_or edges.rows site []) slot

-- the slots of a site
abbrev pub row_at : Edges → ℕ → List ℕ
row_at edges site = get_or edges.rows site []

-- the site is open
abbrev pub IsOpen : Edges → ℕ → Type 0
IsOpen edges site = has edges.opened site ≡ true

-- the ranges of slots and sites are the same, and so are the sites that are open
abbrev pub SameRange : Edges → Edges → Type 0
SameRange old new = (length new.rows ≡ length old.rows) × (new.slots ≡ old.slots) × (new.opened ≡ old.opened)

-- how many pairs there are
abbrev pub pair_count : Edges → ℕ
pair_count edges = sum_by length edges.rows

-- how many edges there can be: those that are, and those there is room for
abbrev pub edge_room : Edges → ℕ
edge_room edges = edges.spare + pair_count edges

-- of the rows that of one site alone changes, and the room and the open sites are the same
pub record Changes (old new : Edges) (site : ℕ) : Type 0 where
  pub row : List ℕ
  pub rows : new.rows ≡ set old.rows site row
  pub slots : new.slots ≡ old.slots
  pub opened : new.opened ≡ old.opened
  pub balance : new.spare + length row ≡ old.spare + length (get_or old.rows site [])

-- the same edges, with ranges and room that did not fall, and sites that stay open
pub record Grows (old new : Edges) : Type 0 where
  pub rows : (i : ℕ) → get_or new.rows i [] ≡ get_or old.rows i []
  pub sites : length old.rows ≤ length new.rows
  pub slots : old.slots ≤ new.slots
  pub spare : old.spare ≤ new.spare
  pub pairs : pair_count new ≡ pair_count old
  pub opened : (i : ℕ) → IsOpen old i → IsOpen new i
