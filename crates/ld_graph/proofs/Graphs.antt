use Rattle.std.proofs.Common.{◌≡◌, ◌≢◌, ℕ, Bool, ◌+◌, ◌<◌, ◌≤◌, ◌⊎◌, inl, inr, List, [], ◌∷◌, ◌++◌, length, get_or, set, map, Contains, refl, sym, ◌∙◌, ap, subst, arith}
use Rattle.std.proofs.lemmas.Bool.{cases_eq}
use Rattle.std.proofs.lemmas.List.{get_or-set_same, get_or-set_other, length-set, get_or_default, get_or-map, length-map}
use Rattle.ld_graph.specs.declared.edge.Edge.{Edge}
use Rattle.ld_graph.specs.Edges.{Edges, IsLinked, Changes}
use Rattle.ld_graph.specs.Linked.{none_at, Among, Follows, FollowsBack, Linkage, slots_of_site, rows_of, free_count}
use Rattle.ld_graph.specs.Columns.{slots_of, edge_sites, nexts_of, befores_of, site_nexts_of, HaveColumns, IsGraph, seen}
use Rattle.ld_graph.proofs.Chains.{among_split, follows_within, forget, prior_in, next_in, among_left, among_right}
use Rattle.ld_graph.proofs.Linking.{site_edge, free_edge, free_first_is, linkage_less, linkage_more}
use Rattle.ld_graph.proofs.Rowed.{among_contains, contains_among, row_edge, edge_row, row_kept, row_less, row_more, rows_at, rows_length, rows_set, free_less, free_more, free_some}

pub seen_sites : {opened : List Bool} (edges : List Edge) (sites slots spare : ℕ) (g : Edges) → seen edges sites slots spare opened ≡ g → length g.rows ≡ sites
seen_sites edges sites slots spare g is =
    ap (λ (x : Edges). length x.rows) (sym is) ∙ rows_length (slots_of edges) (edge_sites edges) sites

pub seen_row : {opened : List Bool} (edges : List Edge) (sites slots spare : ℕ) (g : Edges) → seen edges sites slots spare opened ≡ g → (i : ℕ) → i < sites
    → get_or g.rows i [] ≡ slots_of_site (slots_of edges) (edge_sites edges) i
seen_row edges sites slots spare g is i lt =
    ap (λ (x : Edges). get_or x.rows i []) (sym is) ∙ rows_at (slots_of edges) (edge_sites edges) sites i lt

-- a site that is seen, a slot that is seen, and a free edge where one is seen
module _ {edges : List Edge} {firsts site_firsts : List ℕ} {free spare : ℕ} (g : IsGraph edges firsts site_firsts free spare)
    {opened : List Bool} (old : Edges) (view : seen edges (length site_firsts) (length firsts) spare opened ≡ old) where
  pub site_within : (site : ℕ) → site < length old.rows → site < length site_firsts
  site_within site lt = let n = seen_sites edges (length site_firsts) (length firsts) spare old view in omega arith

  pub slot_within : (slot : ℕ) → slot < old.slots → slot < length firsts
  slot_within slot lt = let n = ap (λ (x : Edges). x.slots) view in omega arith

  pub spare_within : 0 < old.spare → 0 < spare
  spare_within some = let n = ap (λ (x : Edges). x.spare) view in omega arith

-- a list with no number is empty
pub none_among : (xs : List ℕ) → ((x : ℕ) → Among xs x → ⊥) → xs ≡ []
none_among [] no_x = refl
none_among (x ∷ xs) no_x = absurd (no_x x (inl refl))

-- a column of the edges, at one of them
pub column_at : (field : Edge → ℕ) (edges : List Edge) (at : ℕ) (e : Edge) → at < length edges → e ≡ get_or edges at e
    → field e ≡ get_or (map field edges) at none_at
column_at field edges at e lt read = ap field read ∙ sym (get_or-map field edges at e none_at lt)

-- what a first edge that is none leads to, and where one is
led_none : (links : List ℕ) (first : ℕ) (xs : List ℕ) → length links ≤ none_at → Follows links first xs → first ≡ none_at → (e : ℕ) → Among xs e → ⊥
led_none links first [] fits f is e h = h
led_none links first (x ∷ xs) fits f is e h = let a = f.0 in let b = f.1 in omega arith

led_first : (links : List ℕ) (first : ℕ) (xs : List ℕ) → Follows links first xs → (bound : ℕ) → length links ≡ bound → (first ≡ none_at) ⊎ (first < bound)
led_first links first [] f bound len = inl f
led_first links first (x ∷ xs) f bound len = inr (let a = f.0 in let b = f.1 in omega arith)

module _ {slots sites next before site_next firsts site_firsts : List ℕ} {free : ℕ} (l : Linkage slots sites next before site_next firsts site_firsts free) where
  -- a site with no first edge has no edge
  pub no_first : (i : ℕ) → i < length site_firsts → get_or site_firsts i none_at ≡ none_at → slots_of_site slots sites i ≡ []
  no_first i lt is = none_among (slots_of_site slots sites i) (λ k h.
      let r = row_edge slots sites i k h in
      let p = l.by_site i (inl lt) in
      led_none site_next (get_or site_firsts i free) p.edges (let fit = l.edges_fit in let a = l.site_next_len in omega arith) p.follows
      (get_or_default site_firsts i free none_at lt ∙ is) r.0 (p.keyed.all r.0 r.2 r.3))

  -- the edges beside an edge
  pub beside : (e : ℕ) → e < length slots → get_or sites e none_at ≢ none_at
      → ((get_or before e none_at ≡ none_at) ⊎ (get_or before e none_at < length slots))
      × ((get_or next e none_at ≡ none_at) ⊎ (get_or next e none_at < length slots))
  beside e there some =
      let s : ℕ = get_or slots e none_at in
      let h = l.by_slot (get_or slots e none_at) (l.slot_there e there some) in
      let p = among_split h.edges e (h.keyed.all e there refl) in
      let len = l.next_len in
      let f : FollowsBack next before none_at (get_or firsts (get_or slots e none_at) none_at) (p.0 ++ e ∷ p.1) =
      subst (λ (z : List ℕ). FollowsBack next before none_at (get_or firsts (get_or slots e none_at) none_at) z) p.2 h.follows in
      let within : (x : ℕ) → Among (p.0 ++ e ∷ p.1) x → x < length slots = λ x a.
      subst (λ (n : ℕ). x < n) len (follows_within next (get_or firsts (get_or slots e none_at) none_at) (p.0 ++ e ∷ p.1)
      (forget next before none_at (get_or firsts (get_or slots e none_at) none_at) (p.0 ++ e ∷ p.1) f) x a) in (
        elim (prior_in next before none_at (get_or firsts (get_or slots e none_at) none_at) p.0 e p.1 f) [
          | inl q ↦ inl q.1
          | inr a ↦ inr (within (get_or before e none_at) (among_left p.0 (e ∷ p.1) (get_or before e none_at) a))
        ],
        elim (next_in next before none_at (get_or firsts (get_or slots e none_at) none_at) p.0 e p.1 f) [
          | inl q ↦ inl q
          | inr a ↦ inr (within (get_or next e none_at) (among_right p.0 (e ∷ p.1) (get_or next e none_at) (inr a)))
        ],
      )

  -- the first edge of a slot
  pub slot_edge : (s : ℕ) → s < length firsts → (get_or firsts s none_at ≡ none_at) ⊎ (get_or firsts s none_at < length slots)
  slot_edge s lt =
      let h = l.by_slot s lt in
      let len = l.next_len in
      led_first next (get_or firsts s none_at) h.edges (forget next before none_at (get_or firsts s none_at) h.edges h.follows) (length slots) len

  -- where an edge is free, the list of the free ones has a first
  pub free_there : (e : ℕ) → e < length sites → get_or sites e none_at ≡ none_at → free ≢ none_at
  free_there e lt is none =
      let p = l.by_site none_at (inr refl) in
      led_none site_next (get_or site_firsts none_at free) p.edges (let fit = l.edges_fit in let a = l.site_next_len in omega arith) p.follows
      (free_first_is l ∙ none) e (p.keyed.all e lt is)

-- a linkage of equal lists
linkage_same : {slots sites next before site_next firsts site_firsts slots' sites' next' before' site_next' : List ℕ} {free : ℕ}
    → slots' ≡ slots → sites' ≡ sites → next' ≡ next → before' ≡ before → site_next' ≡ site_next
    → Linkage slots sites next before site_next firsts site_firsts free → Linkage slots' sites' next' before' site_next' firsts site_firsts free
linkage_same {slots} {sites} {next} {before} {site_next} {firsts} {site_firsts} {slots'} {sites'} {next'} {before'} {site_next'} {free} a b c d e l =
    subst (λ (x : List ℕ). Linkage slots' sites' next' before' x firsts site_firsts free) (sym e)
    (subst (λ (x : List ℕ). Linkage slots' sites' next' x site_next firsts site_firsts free) (sym d)
    (subst (λ (x : List ℕ). Linkage slots' sites' x before site_next firsts site_firsts free) (sym c)
    (subst (λ (x : List ℕ). Linkage slots' x next before site_next firsts site_firsts free) (sym b)
    (subst (λ (x : List ℕ). Linkage x sites next before site_next firsts site_firsts free) (sym a) l))))

-- the first edge of a site is taken away
module _ {edges : List Edge} {firsts site_firsts : List ℕ} {free spare : ℕ} (g : IsGraph edges firsts site_firsts free spare)
    (site first : ℕ) (lt : site < length site_firsts) (is : get_or site_firsts site none_at ≡ first) (some : first ≢ none_at) where
  pub first_there : (first < length edges) × (get_or (edge_sites edges) first none_at ≡ site)
  first_there =
      let r = site_edge g.linked site first lt is some in
      let a = r.0 in let b = length-map edges (λ (e : Edge). e.slot) in
      (omega arith, r.1)

  pub has_site : get_or (edge_sites edges) first none_at ≢ none_at
  has_site q = let a = first_there.1 in let b = g.linked.sites_fit in omega arith

  pub beside_first : (edge : Edge) → edge ≡ get_or edges first edge
      → ((edge.before ≡ none_at) ⊎ (edge.before < length edges)) × ((edge.next ≡ none_at) ⊎ (edge.next < length edges)) × (edge.slot < length firsts)
  beside_first edge read =
      let there = first_there.0 in
      let len = length-map edges (λ (e : Edge). e.slot) in
      let b = column_at (λ (e : Edge). e.before) edges first edge there read in
      let n = column_at (λ (e : Edge). e.next) edges first edge there read in
      let s = column_at (λ (e : Edge). e.slot) edges first edge there read in
      let r = beside g.linked first (omega arith) has_site in
      let t = g.linked.slot_there first (omega arith) has_site in (
        elim r.0 [ inl q ↦ inl (b ∙ q) | inr q ↦ inr (omega arith) ],
        elim r.1 [ inl q ↦ inl (n ∙ q) | inr q ↦ inr (omega arith) ],
        omega arith,
      )

  module _ (edge : Edge) (read : edge ≡ get_or edges first edge) {edges' edges'' : List Edge} {firsts' : List ℕ}
      (parted : HaveColumns edges' (slots_of edges) (edge_sites edges) (set (nexts_of edges) edge.before edge.next) (set (befores_of edges) edge.next edge.before) (site_nexts_of edges))
      (front_case : edge.before ≡ none_at → firsts' ≡ set firsts edge.slot edge.next) (mid_case : edge.before ≢ none_at → firsts' ≡ firsts)
      (freed : HaveColumns edges'' (set (slots_of edges') first none_at) (set (edge_sites edges') first none_at) (nexts_of edges') (befores_of edges') (set (site_nexts_of edges') first free)) where
    slots_less : slots_of edges'' ≡ set (slots_of edges) first none_at
    slots_less = freed.slots_are ∙ ap (λ (x : List ℕ). set x first none_at) parted.slots_are

    sites_less : edge_sites edges'' ≡ set (edge_sites edges) first none_at
    sites_less = freed.sites_are ∙ ap (λ (x : List ℕ). set x first none_at) parted.sites_are

    pub graph_less : IsGraph edges'' firsts' (set site_firsts site edge.site_next) first (spare + 1)
    graph_less =
        let there = first_there.0 in
        let b = column_at (λ (e : Edge). e.before) edges first edge there read in
        let n = column_at (λ (e : Edge). e.next) edges first edge there read in
        let s = column_at (λ (e : Edge). e.slot) edges first edge there read in
        let x = column_at (λ (e : Edge). e.site_next) edges first edge there read in
        let more = free_more (edge_sites edges) first (omega (arith, length-map edges (λ (e : Edge). e.site))) has_site in
        let count = ap free_count sites_less in
        let had = g.spare_is in
        record {
          linked = subst (λ (z : ℕ). Linkage (slots_of edges'') (edge_sites edges'') (nexts_of edges'') (befores_of edges'') (site_nexts_of edges'') firsts' (set site_firsts site z) first) (sym x)
              (linkage_same slots_less sites_less
              (freed.nexts_are ∙ (parted.nexts_are ∙ (ap (λ (z : ℕ). set (nexts_of edges) z edge.next) b ∙ ap (λ (z : ℕ). set (nexts_of edges) (get_or (befores_of edges) first none_at) z) n)))
              (freed.befores_are ∙ (parted.befores_are ∙ (ap (λ (z : ℕ). set (befores_of edges) z edge.before) n ∙ ap (λ (z : ℕ). set (befores_of edges) (get_or (nexts_of edges) first none_at) z) b)))
              (freed.site_nexts_are ∙ ap (λ (z : List ℕ). set z first free) parted.site_nexts_are)
              (linkage_less g.linked site first lt is some firsts'
              (λ q. front_case (b ∙ q) ∙ (ap (λ (z : ℕ). set firsts z edge.next) s ∙ ap (λ (z : ℕ). set firsts (get_or (slots_of edges) first none_at) z) n))
              (λ q. mid_case (λ r. q (sym b ∙ r)))));
          spare_is = omega arith;
        }

    firsts_same : length firsts' ≡ length firsts
    firsts_same = elim (cases_eq edge.before none_at) [
      | inl q ↦ ap (λ (z : List ℕ). length z) (front_case q) ∙ length-set firsts edge.slot edge.next
      | inr q ↦ ap (λ (z : List ℕ). length z) (mid_case q)
    ]

    row_after : length (slots_of_site (slots_of edges'') (edge_sites edges'') site) + 1 ≡ length (slots_of_site (slots_of edges) (edge_sites edges) site)
    row_after =
        ap (λ (z : List ℕ). length (slots_of_site z (edge_sites edges'') site) + 1) slots_less
        ∙ (ap (λ (z : List ℕ). length (slots_of_site (set (slots_of edges) first none_at) z site) + 1) sites_less
        ∙ row_less (slots_of edges) (edge_sites edges) first none_at none_at site
        (let there = first_there.0 in omega (arith, length-map edges (λ (e : Edge). e.slot)))
        (let there = first_there.0 in omega (arith, length-map edges (λ (e : Edge). e.site)))
        first_there.1 (λ q. let a = g.linked.sites_fit in omega arith))

    pub changes_less : {opened : List Bool} (old : Edges) → seen edges (length site_firsts) (length firsts) spare opened ≡ old
        → Changes old (seen edges'' (length (set site_firsts site edge.site_next)) (length firsts') (spare + 1) opened) site
    changes_less old view =
        let fit = g.linked.sites_fit in
        record {
          row = slots_of_site (slots_of edges'') (edge_sites edges'') site;
          rows = ap (λ (n : ℕ). rows_of (slots_of edges'') (edge_sites edges'') n) (length-set site_firsts site edge.site_next)
              ∙ (rows_set (slots_of edges) (edge_sites edges) (slots_of edges'') (edge_sites edges'') (length site_firsts) site
              (λ j within ne.
              ap (λ (z : List ℕ). slots_of_site z (edge_sites edges'') j) slots_less
              ∙ (ap (λ (z : List ℕ). slots_of_site (set (slots_of edges) first none_at) z j) sites_less
              ∙ row_kept (slots_of edges) (edge_sites edges) first none_at none_at j (λ q. ne (sym q ∙ first_there.1)) (λ q. omega arith)))
              ∙ ap (λ (x : Edges). set x.rows site (slots_of_site (slots_of edges'') (edge_sites edges'') site)) view);
          slots = firsts_same ∙ ap (λ (x : Edges). x.slots) view;
          opened = ap (λ (x : Edges). x.opened) view;
          balance =
              let r = seen_row edges (length site_firsts) (length firsts) spare old view site lt in
              let m = ap (λ (z : List ℕ). length z) r in
              let s = ap (λ (x : Edges). x.spare) view in
              let a = row_after in
              omega arith;
        }

    pub less_by_one : {opened : List Bool} (old : Edges) → seen edges (length site_firsts) (length firsts) spare opened ≡ old
        → length (get_or (rows_of (slots_of edges'') (edge_sites edges'') (length (set site_firsts site edge.site_next))) site []) + 1 ≡ length (get_or old.rows site [])
    less_by_one old view =
        let r = ap (λ (z : List ℕ). length z) (seen_row edges (length site_firsts) (length firsts) spare old view site lt) in
        let n = ap (λ (z : List ℕ). length z) (rows_at (slots_of edges'') (edge_sites edges'') (length (set site_firsts site edge.site_next)) site
        (omega (arith, length-set site_firsts site edge.site_next))) in
        let a = row_after in
        omega arith

-- an edge is put
module _ {edges : List Edge} {firsts site_firsts : List ℕ} {free spare : ℕ} (g : IsGraph edges firsts site_firsts free spare)
    (slot site : ℕ) (slot_lt : slot < length firsts) (lt : site < length site_firsts) (room : 0 < spare) where
  pub free_is : (free < length edges) × (get_or (edge_sites edges) free none_at ≡ none_at) × (free ≢ none_at)
  free_is =
      let had = g.spare_is in
      let e = free_some (edge_sites edges) (omega arith) in
      let some : free ≢ none_at = free_there g.linked e.0 e.1 e.2 in
      let f = free_edge g.linked some site lt in
      let a = f.0 in
      (omega (arith, length-map edges (λ (e : Edge). e.slot)), f.1, some)

  module _ (new : (h : ℕ) → h < length (slots_of edges) → get_or (slots_of edges) h none_at ≡ slot → get_or (edge_sites edges) h none_at ≡ site → ⊥)
      (next site_next next_free spare' : ℕ) (next_is : next ≡ get_or firsts slot none_at) (site_next_is : site_next ≡ get_or site_firsts site none_at)
      (next_free_is : next_free ≡ get_or (site_nexts_of edges) free none_at) (one_less : spare' + 1 ≡ spare)
      {edges' edges'' : List Edge}
      (written : HaveColumns edges' (set (slots_of edges) free slot) (set (edge_sites edges) free site) (set (nexts_of edges) free next) (set (befores_of edges) free none_at) (set (site_nexts_of edges) free site_next))
      (named : HaveColumns edges'' (slots_of edges') (edge_sites edges') (nexts_of edges') (set (befores_of edges') next free) (site_nexts_of edges')) where
    slots_more : slots_of edges'' ≡ set (slots_of edges) free slot
    slots_more = named.slots_are ∙ written.slots_are

    sites_more : edge_sites edges'' ≡ set (edge_sites edges) free site
    sites_more = named.sites_are ∙ written.sites_are

    slots_there : free < length (slots_of edges)
    slots_there = let a = free_is.0 in omega (arith, length-map edges (λ (e : Edge). e.slot))

    sites_there : free < length (edge_sites edges)
    sites_there = let a = free_is.0 in omega (arith, length-map edges (λ (e : Edge). e.site))

    pub graph_more : IsGraph edges'' (set firsts slot free) (set site_firsts site free) next_free spare'
    graph_more =
        let had = g.spare_is in
        let fit = g.linked.sites_fit in
        let less = free_less (edge_sites edges) free site sites_there free_is.1 (λ q. omega arith) in
        let count = ap free_count sites_more in
        record {
          linked = subst (λ (z : ℕ). Linkage (slots_of edges'') (edge_sites edges'') (nexts_of edges'') (befores_of edges'') (site_nexts_of edges'') (set firsts slot free) (set site_firsts site free) z) (sym next_free_is)
              (linkage_same slots_more sites_more
              (named.nexts_are ∙ (written.nexts_are ∙ ap (λ (z : ℕ). set (nexts_of edges) free z) next_is))
              (named.befores_are ∙ (ap (λ (z : List ℕ). set z next free) written.befores_are ∙ ap (λ (z : ℕ). set (set (befores_of edges) free none_at) z free) next_is))
              (named.site_nexts_are ∙ (written.site_nexts_are ∙ ap (λ (z : ℕ). set (site_nexts_of edges) free z) site_next_is))
              (linkage_more g.linked slot site slot_lt lt free_is.2 new));
          spare_is = omega arith;
        }

    row_now : length (slots_of_site (slots_of edges'') (edge_sites edges'') site) ≡ length (slots_of_site (slots_of edges) (edge_sites edges) site) + 1
    row_now =
        ap (λ (z : List ℕ). length (slots_of_site z (edge_sites edges'') site)) slots_more
        ∙ (ap (λ (z : List ℕ). length (slots_of_site (set (slots_of edges) free slot) z site)) sites_more
        ∙ row_more (slots_of edges) (edge_sites edges) free slot site site slots_there sites_there
        (λ q. let a = free_is.1 in let b = g.linked.sites_fit in omega arith) refl)

    pub changes_more : {opened : List Bool} (old : Edges) → seen edges (length site_firsts) (length firsts) spare opened ≡ old
        → Changes old (seen edges'' (length (set site_firsts site free)) (length (set firsts slot free)) spare' opened) site
    changes_more old view =
        let fit = g.linked.sites_fit in
        record {
          row = slots_of_site (slots_of edges'') (edge_sites edges'') site;
          rows = ap (λ (n : ℕ). rows_of (slots_of edges'') (edge_sites edges'') n) (length-set site_firsts site free)
              ∙ (rows_set (slots_of edges) (edge_sites edges) (slots_of edges'') (edge_sites edges'') (length site_firsts) site
              (λ j within ne.
              ap (λ (z : List ℕ). slots_of_site z (edge_sites edges'') j) slots_more
              ∙ (ap (λ (z : List ℕ). slots_of_site (set (slots_of edges) free slot) z j) sites_more
              ∙ row_kept (slots_of edges) (edge_sites edges) free slot site j (λ q. let a = free_is.1 in omega arith) (λ q. ne (sym q))))
              ∙ ap (λ (x : Edges). set x.rows site (slots_of_site (slots_of edges'') (edge_sites edges'') site)) view);
          slots = length-set firsts slot free ∙ ap (λ (x : Edges). x.slots) view;
          opened = ap (λ (x : Edges). x.opened) view;
          balance =
              let m = ap (λ (z : List ℕ). length z) (seen_row edges (length site_firsts) (length firsts) spare old view site lt) in
              let s = ap (λ (x : Edges). x.spare) view in
              let a = row_now in
              omega arith;
        }

    row_there : get_or (rows_of (slots_of edges'') (edge_sites edges'') (length (set site_firsts site free))) site [] ≡ slots_of_site (slots_of edges'') (edge_sites edges'') site
    row_there = rows_at (slots_of edges'') (edge_sites edges'') (length (set site_firsts site free)) site (omega (arith, length-set site_firsts site free))

    pub more_by_one : {opened : List Bool} (old : Edges) → seen edges (length site_firsts) (length firsts) spare opened ≡ old
        → length (get_or (rows_of (slots_of edges'') (edge_sites edges'') (length (set site_firsts site free))) site []) ≡ length (get_or old.rows site []) + 1
    more_by_one old view =
        let m = ap (λ (z : List ℕ). length z) (seen_row edges (length site_firsts) (length firsts) spare old view site lt) in
        let n = ap (λ (z : List ℕ). length z) row_there in
        let a = row_now in
        omega arith

    slot_now : (e : ℕ) → e ≢ free → get_or (slots_of edges'') e none_at ≡ get_or (slots_of edges) e none_at
    slot_now e ne = ap (λ (z : List ℕ). get_or z e none_at) slots_more ∙ get_or-set_other (slots_of edges) free e slot none_at ne

    site_now : (e : ℕ) → e ≢ free → get_or (edge_sites edges'') e none_at ≡ get_or (edge_sites edges) e none_at
    site_now e ne = ap (λ (z : List ℕ). get_or z e none_at) sites_more ∙ get_or-set_other (edge_sites edges) free e site none_at ne

    slots_long : length (slots_of edges'') ≡ length (slots_of edges)
    slots_long = ap (λ (z : List ℕ). length z) slots_more ∙ length-set (slots_of edges) free slot

    sites_long : length (edge_sites edges'') ≡ length (edge_sites edges)
    sites_long = ap (λ (z : List ℕ). length z) sites_more ∙ length-set (edge_sites edges) free site

    pub own_row : {opened : List Bool} (old : Edges) → seen edges (length site_firsts) (length firsts) spare opened ≡ old → (k : ℕ)
        → (Contains (get_or (rows_of (slots_of edges'') (edge_sites edges'') (length (set site_firsts site free))) site []) k → (k ≡ slot) ⊎ IsLinked old k site)
        × ((k ≡ slot) ⊎ IsLinked old k site → Contains (get_or (rows_of (slots_of edges'') (edge_sites edges'') (length (set site_firsts site free))) site []) k)
    own_row old view k =
        let row_was = seen_row edges (length site_firsts) (length firsts) spare old view site lt in (
          λ h.
              let r = row_edge (slots_of edges'') (edge_sites edges'') site k (contains_among (slots_of_site (slots_of edges'') (edge_sites edges'') site) k
              (subst (λ (z : List ℕ). Contains z k) row_there h)) in
              let a = r.1 in let b = r.2 in let m = slots_long in let n = sites_long in
              elim (cases_eq r.0 free) [
                | inl here ↦ inl (sym r.4 ∙ (ap (λ (z : ℕ). get_or (slots_of edges'') z none_at) here
                    ∙ (ap (λ (z : List ℕ). get_or z free none_at) slots_more ∙ get_or-set_same (slots_of edges) free slot none_at slots_there)))
                | inr other ↦ inr (subst (λ (z : List ℕ). Contains z k) (sym row_was)
                    (among_contains (slots_of_site (slots_of edges) (edge_sites edges) site) k
                    (subst (λ (z : ℕ). Among (slots_of_site (slots_of edges) (edge_sites edges) site) z) (sym (slot_now r.0 other) ∙ r.4)
                    (edge_row (slots_of edges) (edge_sites edges) site r.0 (omega arith) (omega arith) (sym (site_now r.0 other) ∙ r.3)))))
              ],
          λ one. subst (λ (z : List ℕ). Contains z k) (sym row_there) (among_contains (slots_of_site (slots_of edges'') (edge_sites edges'') site) k
              (elim one [
                | inl is_slot ↦ subst (λ (z : ℕ). Among (slots_of_site (slots_of edges'') (edge_sites edges'') site) z)
                    (ap (λ (z : List ℕ). get_or z free none_at) slots_more ∙ (get_or-set_same (slots_of edges) free slot none_at slots_there ∙ sym is_slot))
                    (edge_row (slots_of edges'') (edge_sites edges'') site free
                    (let a = slots_there in let m = slots_long in omega arith) (let a = sites_there in let m = sites_long in omega arith)
                    (ap (λ (z : List ℕ). get_or z free none_at) sites_more ∙ get_or-set_same (edge_sites edges) free site none_at sites_there))
                | inr was ↦
                    let r = row_edge (slots_of edges) (edge_sites edges) site k (contains_among (slots_of_site (slots_of edges) (edge_sites edges) site) k
                    (subst (λ (z : List ℕ). Contains z k) row_was was)) in
                    let a = r.1 in let b = r.2 in let m = slots_long in let n = sites_long in
                    let other : r.0 ≢ free = λ q. (let c = free_is.1 in let d = g.linked.sites_fit in
                    let bad : get_or (edge_sites edges) r.0 none_at ≡ none_at = ap (λ (z : ℕ). get_or (edge_sites edges) z none_at) q ∙ c in
                    let bad_too = r.3 in omega arith) in
                    subst (λ (z : ℕ). Among (slots_of_site (slots_of edges'') (edge_sites edges'') site) z) (slot_now r.0 other ∙ r.4)
                    (edge_row (slots_of edges'') (edge_sites edges'') site r.0 (omega arith) (omega arith) (site_now r.0 other ∙ r.3))
              ])),
        )

-- a pair that is no edge
pub no_edge : {opened : List Bool} (edges : List Edge) (sites slots spare : ℕ) (old : Edges) → seen edges sites slots spare opened ≡ old → (slot site : ℕ) → site < sites
    → (IsLinked old slot site → ⊥) → (h : ℕ) → h < length (slots_of edges) → get_or (slots_of edges) h none_at ≡ slot → get_or (edge_sites edges) h none_at ≡ site → ⊥
no_edge edges sites slots spare old view slot site lt new h within slot_is site_is =
    new (subst (λ (z : List ℕ). Contains z slot) (sym (seen_row edges sites slots spare old view site lt))
    (among_contains (slots_of_site (slots_of edges) (edge_sites edges) site) slot
    (subst (λ (z : ℕ). Among (slots_of_site (slots_of edges) (edge_sites edges) site) z) slot_is
    (edge_row (slots_of edges) (edge_sites edges) site h within
    (omega (arith, length-map edges (λ (e : Edge). e.slot), length-map edges (λ (e : Edge). e.site))) site_is))))
