use Rattle.std.specs.Prelude.{◌≡◌, ◌≢◌, ℕ, ◌<◌, ◌≤◌, ◌⊎◌, cond, List, [], ◌∷◌, length, get_or, eqb, map, sum_by}
use Rattle.std.specs.List.{range_with_len}

-- the number that names no edge, no slot and no site
abbrev pub none_at : ℕ
none_at = 4294967295

-- the list has the number
abbrev pub Among : List ℕ → ℕ → Type 0
Among [] x = ⊥
Among (y ∷ ys) x = (y ≡ x) ⊎ Among ys x

-- what one follows from the first edge along the links to the end
abbrev pub Follows : List ℕ → ℕ → List ℕ → Type 0
Follows next first [] = first ≡ none_at
Follows next first (e ∷ rest) = (first ≡ e) × (e < length next) × Follows next (get_or next e none_at) rest

-- the same, where each edge names the one before it, and the first one names this one
abbrev pub FollowsBack : List ℕ → List ℕ → ℕ → ℕ → List ℕ → Type 0
FollowsBack next before prior first [] = first ≡ none_at
FollowsBack next before prior first (e ∷ rest) =
    (first ≡ e) × (e < length next) × (get_or before e none_at ≡ prior) × FollowsBack next before e (get_or next e none_at) rest

-- these are the edges with this key
pub record AreKeyed (keys edges : List ℕ) (key : ℕ) : Type 0 where
  pub all : (e : ℕ) → e < length keys → get_or keys e none_at ≡ key → Among edges e
  pub only : (e : ℕ) → Among edges e → get_or keys e none_at ≡ key

-- the links lead from the first edge through those with this key
pub record LeadsThrough (next keys : List ℕ) (first key : ℕ) : Type 0 where
  pub edges : List ℕ
  pub follows : Follows next first edges
  pub keyed : AreKeyed keys edges key

-- the same, both ways
pub record LeadsBackThrough (next before keys : List ℕ) (first key : ℕ) : Type 0 where
  pub edges : List ℕ
  pub follows : FollowsBack next before none_at first edges
  pub keyed : AreKeyed keys edges key

-- the slots of the edges of a site, by the slot and the site of each edge
abbrev pub slots_of_site : List ℕ → List ℕ → ℕ → List ℕ
slots_of_site [] sites site = []
slots_of_site (s ∷ slots) [] site = []
slots_of_site (s ∷ slots) (t ∷ sites) site = cond (eqb t site) (s ∷ slots_of_site slots sites site) (slots_of_site slots sites site)

-- the slots of each site, for this many sites
abbrev pub rows_of : List ℕ → List ℕ → ℕ → List (List ℕ)
rows_of slots sites count = map (slots_of_site slots sites) (range_with_len 0 count)

-- how many edges have no site
abbrev pub free_count : List ℕ → ℕ
free_count sites = sum_by (λ t. cond (eqb t none_at) 1 0) sites

-- edges, by their slots, their sites, their links to the next and the one before in the slot's list, and their
-- links to the next in the site's list; an edge without a site stands in the list of the free ones
pub record Linkage (slots sites next before site_next firsts site_firsts : List ℕ) (free : ℕ) : Type 0 where
  pub edges_fit : length slots ≤ none_at
  pub slots_fit : length firsts ≤ none_at
  pub sites_fit : length site_firsts ≤ none_at
  pub sites_len : length sites ≡ length slots
  pub next_len : length next ≡ length slots
  pub before_len : length before ≡ length slots
  pub site_next_len : length site_next ≡ length slots
  pub by_slot : (s : ℕ) → s < length firsts → LeadsBackThrough next before slots (get_or firsts s none_at) s
  pub by_site : (t : ℕ) → (t < length site_firsts) ⊎ (t ≡ none_at) → LeadsThrough site_next sites (get_or site_firsts t free) t
  pub slot_there : (e : ℕ) → e < length slots → get_or sites e none_at ≢ none_at → get_or slots e none_at < length firsts
  pub site_there : (e : ℕ) → e < length slots → get_or sites e none_at ≢ none_at → get_or sites e none_at < length site_firsts
  pub no_slot : (e : ℕ) → get_or sites e none_at ≡ none_at → get_or slots e none_at ≡ none_at
  pub once : (e f : ℕ) → get_or sites e none_at ≢ none_at → get_or slots e none_at ≡ get_or slots f none_at
      → get_or sites e none_at ≡ get_or sites f none_at → e ≡ f
