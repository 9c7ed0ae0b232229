use Rattle.std.specs.Prelude.{◌≡◌, ◌≢◌, ℕ, ◌+◌, ◌*◌, ◌/◌, ◌%◌, ◌<◌, ◌≤◌, ◌⊎◌, Bool, true, List, ◌++◌, length, get_or, ltb, map, replicate}
use Rattle.std.specs.List.{range_with_len}
use Rattle.ld_graph.specs.Linked.{none_at}
use Rattle.ld_graph.specs.Table.{has}

-- what the graph sees of the first edges of its sites: the number of each, and which sites are open
pub record Paged : Type 0 where
  pub items : List ℕ
  pub opened : List Bool

-- the entry of a site, by the pages of each sixteen sites and the entries of all pages
abbrev pub paged_entry : List ℕ → List ℕ → ℕ → ℕ
paged_entry pages entries site = get_or entries (get_or pages (site / 16) none_at * 16 + site % 16) none_at

-- the entries of the first `sites` sites
abbrev pub entries_of : List ℕ → List ℕ → ℕ → List ℕ
entries_of pages entries sites = map (paged_entry pages entries) (range_with_len 0 sites)

-- the site has a page
abbrev pub has_page : List ℕ → ℕ → Bool
has_page pages site = ltb (get_or pages (site / 16) none_at) none_at

-- which sites have one, of this many
abbrev pub opened_of : List ℕ → ℕ → List Bool
opened_of pages sites = map (has_page pages) (range_with_len 0 sites)

-- the entries are whole pages, which are few enough to be numbered, as the sites are; there is a number for each sixteen
-- sites in range, of a page that the entries have or of none; no two are the same, and no site beyond the range has an entry
pub record ArePages (pages entries : List ℕ) (sites : ℕ) : Type 0 where
  pub count : ℕ
  pub whole : length entries ≡ 16 * count
  pub few : count ≤ none_at
  pub fits : sites ≤ none_at
  pub covers : sites ≤ 16 * length pages
  pub within : (p : ℕ) → (get_or pages p none_at ≡ none_at) ⊎ (get_or pages p none_at < count)
  pub apart : (p q : ℕ) → get_or pages p none_at ≢ none_at → get_or pages p none_at ≡ get_or pages q none_at → p ≡ q
  pub beyond : (i : ℕ) → sites ≤ i → paged_entry pages entries i ≡ none_at

-- what the graph sees of pages, entries and this many sites
abbrev pub paged : List ℕ → List ℕ → ℕ → Paged
paged pages entries sites = record { items = entries_of pages entries sites; opened = opened_of pages sites }

-- the same entries and more that name no edge, no more than can be numbered; open sites stay open
pub record Widens (old new : Paged) : Type 0 where
  pub more : ℕ
  pub items : new.items ≡ old.items ++ replicate more none_at
  pub fits : length new.items ≤ none_at
  pub opened : (i : ℕ) → has old.opened i ≡ true → has new.opened i ≡ true
