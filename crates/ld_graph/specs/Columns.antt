use Rattle.std.specs.Prelude.{◌≡◌, ℕ, Bool, List, map, set}
use Rattle.ld_graph.specs.declared.edge.Edge.{Edge}
use Rattle.ld_graph.specs.Linked.{none_at, rows_of, Linkage, free_count}
use Rattle.ld_graph.specs.Edges.{Edges}

-- the slot of each edge
abbrev pub slots_of : List Edge → List ℕ
slots_of edges = map (λ e. e.slot) edges

-- the site of each edge
abbrev pub edge_sites : List Edge → List ℕ
edge_sites edges = map (λ e. e.site) edges

-- the edge after each edge in the list of its slot
abbrev pub nexts_of : List Edge → List ℕ
nexts_of edges = map (λ e. e.next) edges

-- the edge before each edge in the list of its slot
abbrev pub befores_of : List Edge → List ℕ
befores_of edges = map (λ e. e.before) edges

-- the edge after each edge in the list of its site, or of the free ones
abbrev pub site_nexts_of : List Edge → List ℕ
site_nexts_of edges = map (λ e. e.site_next) edges

-- the edges have these columns
pub record HaveColumns (edges : List Edge) (slots sites nexts befores site_nexts : List ℕ) : Type 0 where
  pub slots_are : slots_of edges ≡ slots
  pub sites_are : edge_sites edges ≡ sites
  pub nexts_are : nexts_of edges ≡ nexts
  pub befores_are : befores_of edges ≡ befores
  pub site_nexts_are : site_nexts_of edges ≡ site_nexts

-- what callers see of edges, this many sites, this many slots, a number of free edges and the sites that are open
abbrev pub seen : List Edge → ℕ → ℕ → ℕ → List Bool → Edges
seen edges sites slots spare opened =
    record { rows = rows_of (slots_of edges) (edge_sites edges) sites; slots = slots; spare = spare; opened = opened }

-- edges that are linked, with the first of each slot, of each site and of the free ones, and the number of these
pub record IsGraph (edges : List Edge) (firsts site_firsts : List ℕ) (free spare : ℕ) : Type 0 where
  pub linked : Linkage (slots_of edges) (edge_sites edges) (nexts_of edges) (befores_of edges) (site_nexts_of edges) firsts site_firsts free
  pub spare_is : spare ≡ free_count (edge_sites edges)

-- only what follows this edge in its slot's list changed
abbrev pub ChangesNext : List Edge → List Edge → ℕ → ℕ → Type 0
ChangesNext old new at next = HaveColumns new (slots_of old) (edge_sites old) (set (nexts_of old) at next) (befores_of old) (site_nexts_of old)

-- only what stands before this edge in its slot's list changed
abbrev pub ChangesBefore : List Edge → List Edge → ℕ → ℕ → Type 0
ChangesBefore old new at before =
    HaveColumns new (slots_of old) (edge_sites old) (nexts_of old) (set (befores_of old) at before) (site_nexts_of old)

-- only this edge changed, which is a free one that another follows
abbrev pub ChangesToFree : List Edge → List Edge → ℕ → ℕ → Type 0
ChangesToFree old new at site_next = HaveColumns new (set (slots_of old) at none_at) (set (edge_sites old) at none_at) (nexts_of old)
    (befores_of old) (set (site_nexts_of old) at site_next)

-- only this edge changed, to another one
abbrev pub ChangesEdge : List Edge → List Edge → ℕ → Edge → Type 0
ChangesEdge old new at edge = HaveColumns new (set (slots_of old) at edge.slot) (set (edge_sites old) at edge.site)
    (set (nexts_of old) at edge.next) (set (befores_of old) at edge.before) (set (site_nexts_of old) at edge.site_next)

-- the edges beside this one name each other
abbrev pub PassesOver : List Edge → List Edge → Edge → Type 0
PassesOver old new edge = HaveColumns new (slots_of old) (edge_sites old) (set (nexts_of old) edge.before edge.next)
    (set (befores_of old) edge.next edge.before) (site_nexts_of old)
