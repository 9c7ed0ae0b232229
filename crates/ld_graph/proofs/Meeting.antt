use Rattle.std.proofs.Common.{◌≡◌, ◌≢◌, ◌-◌, ℕ, Bool, zero, suc, ◌<◌, ◌≤◌, inl, inr, true, false, eqb, ltb, List, [], ◌∷◌, length, get_or, map, Contains, All, refl, sym, ◌∙◌, ap, subst, arith}
use Rattle.std.proofs.lemmas.Bool.{cases_lt, cases_eq, cond-true, cond-false, lt-ltb, le-ltb, or_cases, eqb-true, ne_eqb}
use Rattle.std.proofs.lemmas.List.{length-map, get_or-map, get_or_past, get_or_read}
use Rattle.std.proofs.lemmas.List.Elements.{All-from_get_or}
use Rattle.std.proofs.lemmas.Map.Steps.{length-le_from_distinct_below}
use Rattle.std.specs.List.{IsDistinct, AllByRecursion, list_any}
use Rattle.ld_graph.specs.declared.edge.Edge.{Edge}
use Rattle.ld_graph.specs.Slots.{AreDistinct}
use Rattle.ld_graph.specs.Edges.{Edges, IsLinked}
use Rattle.ld_graph.specs.Linked.{none_at, Among, Follows, slots_of_site}
use Rattle.ld_graph.specs.Columns.{slots_of, edge_sites, nexts_of, IsGraph}
use Rattle.ld_graph.specs.Readings.{sites_met, walk}
use Rattle.ld_graph.proofs.Chains.{Fresh, follows_fresh, follows_within, forget}
use Rattle.ld_graph.proofs.Rowed.{among_contains, contains_among, row_edge, edge_row, row_yes, row_no}
use Rattle.ld_graph.proofs.Graphs.{seen_sites, seen_row, slot_within}
use Rattle.ld_graph.specs.Columns.{seen}

-- the first edge's site is met first, and then those from the edge after it
pub met_first : (edges : List Edge) (at left : ℕ) (e : Edge) → 0 < left → at < length edges → e ≡ get_or edges at e
    → sites_met edges at left ≡ e.site ∷ sites_met edges e.next (left - 1)
met_first edges at zero e pos lt is = absurd (omega arith)
met_first edges at (suc left) e pos lt is =
    let len = length-map edges (λ (x : Edge). x.next) in
    let site : get_or (edge_sites edges) at none_at ≡ e.site = get_or-map (λ (x : Edge). x.site) edges at e none_at lt ∙ ap (λ (x : Edge). x.site) (sym is) in
    let next : get_or (nexts_of edges) at none_at ≡ e.next = get_or-map (λ (x : Edge). x.next) edges at e none_at lt ∙ ap (λ (x : Edge). x.next) (sym is) in
    let rest : ℕ → List ℕ = λ (n : ℕ). walk left (nexts_of edges) n in
    let fewer : left ≡ suc left - 1 = omega arith in
    let of : List ℕ → List ℕ = λ (ns : List ℕ). map (λ (n : ℕ). get_or (edge_sites edges) n none_at) ns in
    ap of (cond-true (ltb at (length (nexts_of edges))) (at ∷ rest (get_or (nexts_of edges) at none_at)) [] (lt-ltb at (length (nexts_of edges)) (omega arith)))
    ∙ (ap (λ (s : ℕ). s ∷ of (rest (get_or (nexts_of edges) at none_at))) site
    ∙ ap (λ (n : ℕ). e.site ∷ of (rest n)) next
    ∙ ap (λ (n : ℕ). e.site ∷ sites_met edges e.next n) fewer)

-- a walk meets what the links lead through
pub walk_meets : (next : List ℕ) → length next ≤ none_at → (at : ℕ) (xs : List ℕ) (left : ℕ) → Follows next at xs → length xs ≤ left → walk left next at ≡ xs
walk_meets next fits at [] zero f le = refl
walk_meets next fits at [] (suc left) f le =
    cond-false (ltb at (length next)) (at ∷ walk left next (get_or next at none_at)) [] (le-ltb at (length next) (omega arith))
walk_meets next fits at (x ∷ xs) zero f le = absurd (omega arith)
walk_meets next fits at (x ∷ xs) (suc left) f le =
    let here : at ≡ x = f.0 in
    let lt : x < length next = f.1 in
    cond-true (ltb at (length next)) (at ∷ walk left next (get_or next at none_at)) [] (lt-ltb at (length next) (omega arith))
    ∙ (ap (λ (z : ℕ). z ∷ walk left next (get_or next z none_at)) here
    ∙ ap (λ (z : List ℕ). x ∷ z) (walk_meets next fits (get_or next x none_at) xs left f.2 (omega arith)))

-- numbers that do not come again, each below a number, are at most this many
all_apart : (xs : List ℕ) (x : ℕ) → (Among xs x → ⊥) → AllByRecursion (λ y. eqb x y ≡ false) xs
all_apart [] x new = tt
all_apart (y ∷ ys) x new = (ne_eqb x y (λ e. new (inl (sym e))), all_apart ys x (λ h. new (inr h)))

fresh_distinct : (xs : List ℕ) → Fresh xs → IsDistinct eqb xs
unfolding IsDistinct
fresh_distinct [] f = tt
fresh_distinct (x ∷ xs) f = (all_apart xs x f.0, fresh_distinct xs f.1)

any_among : (xs : List ℕ) (x : ℕ) → list_any (eqb x) xs ≡ true → Among xs x
any_among [] x h = absurd (let bad : false ≡ true = h in cc)
any_among (y ∷ ys) x h = elim (or_cases (eqb x y) (list_any (eqb x) ys) h) [
  | inl e ↦ inl (sym (eqb-true x y e))
  | inr r ↦ inr (any_among ys x r)
]

pub fresh_few : (xs : List ℕ) (n : ℕ) → Fresh xs → ((x : ℕ) → Among xs x → x < n) → length xs ≤ n
fresh_few xs n f below = length-le_from_distinct_below xs n (fresh_distinct xs f) (λ x h. below x (any_among xs x h))

-- a function of each number of a list
map_among : (f : ℕ → ℕ) (xs : List ℕ) (e : ℕ) → Among xs e → Among (map f xs) (f e)
map_among f [] e h = h
map_among f (x ∷ xs) e h = elim h [ inl q ↦ inl (ap f q) | inr r ↦ inr (map_among f xs e r) ]

among_map : (f : ℕ → ℕ) (xs : List ℕ) (y : ℕ) → Among (map f xs) y → (e : ℕ) × (Among xs e) × (f e ≡ y)
among_map f [] y h = absurd h
among_map f (x ∷ xs) y h = elim h [
  | inl q ↦ (x, inl refl, q)
  | inr r ↦ let t = among_map f xs y r in (t.0, inr t.1, t.2)
]

-- a place of a list holds one of its numbers
among_place : (xs : List ℕ) (k : ℕ) → k < length xs → Among xs (get_or xs k 0)
among_place [] k lt = absurd (omega arith)
among_place (x ∷ xs) zero lt = inl refl
among_place (x ∷ xs) (suc k) lt = inr (among_place xs k (omega arith))

pub fresh_places : (xs : List ℕ) → Fresh xs → (i j : ℕ) → i < length xs → j < length xs → get_or xs i 0 ≡ get_or xs j 0 → i ≡ j
fresh_places [] f i j li lj e = absurd (omega arith)
fresh_places (x ∷ xs) f zero zero li lj e = refl
fresh_places (x ∷ xs) f zero (suc j) li lj e = absurd (f.0 (subst (λ (z : ℕ). Among xs z) (sym e) (among_place xs j (omega arith))))
fresh_places (x ∷ xs) f (suc i) zero li lj e = absurd (f.0 (subst (λ (z : ℕ). Among xs z) e (among_place xs i (omega arith))))
fresh_places (x ∷ xs) f (suc i) (suc j) li lj e = ap suc (fresh_places xs f.1 i j (omega arith) (omega arith) e)

-- an edge's site is in range
linked_within : (old : Edges) (slot i count : ℕ) → IsLinked old slot i → length old.rows ≡ count → i < count
linked_within old slot i count linked e = elim (cases_lt i count) [
  | inl lt ↦ lt
  | inr le ↦
      let none = ap (λ (x : List ℕ). length x) (get_or_past old.rows i [] (omega arith)) in
      let some = linked.1 in
      absurd (omega arith)
]

-- the sites of the edges of a slot
pub record AreReaders (old : Edges) (slot : ℕ) (sites : List ℕ) : Type 0 where
  pub members : (i : ℕ) → (Contains sites i → IsLinked old slot i) × (IsLinked old slot i → Contains sites i)
  pub once : AreDistinct sites
  pub within : All (λ i. i < length old.rows) sites

readers_met : {edges : List Edge} {firsts site_firsts : List ℕ} {free spare : ℕ} → IsGraph edges firsts site_firsts free spare
    → {opened : List Bool} (old : Edges) → seen edges (length site_firsts) (length firsts) spare opened ≡ old → (slot : ℕ) → slot < length firsts → (at left : ℕ)
    → get_or firsts slot none_at ≡ at → left ≡ length edges
    → AreReaders old slot (map (λ e. get_or (edge_sites edges) e none_at) (walk left (nexts_of edges) at))
readers_met {edges} {firsts} {site_firsts} {free} {spare} g old view slot lt at left at_is left_is =
    let l = g.linked in
    let h = l.by_slot slot lt in
    let fits = l.edges_fit in
    let next_len = l.next_len in
    let sites_len = l.sites_len in
    let slots_len = length-map edges (λ (e : Edge). e.slot) in
    let f : Follows (nexts_of edges) (get_or firsts slot none_at) h.edges = forget _ _ none_at (get_or firsts slot none_at) h.edges h.follows in
    let fresh : Fresh h.edges = follows_fresh (nexts_of edges) (omega arith) (get_or firsts slot none_at) h.edges f in
    let within : (x : ℕ) → Among h.edges x → x < length (nexts_of edges) = follows_within (nexts_of edges) (get_or firsts slot none_at) h.edges f in
    let few = fresh_few h.edges (length (nexts_of edges)) fresh within in
    let met : walk left (nexts_of edges) at ≡ h.edges =
    walk_meets (nexts_of edges) (omega arith) at h.edges left (subst (λ (z : ℕ). Follows (nexts_of edges) z h.edges) at_is f) (omega arith) in
    let count = seen_sites edges (length site_firsts) (length firsts) spare old view in
    let live : (e : ℕ) → Among h.edges e → get_or (edge_sites edges) e none_at ≢ none_at =
    λ e a q. let n = l.no_slot e q in let k = h.keyed.only e a in let s = l.slots_fit in omega arith in
    let site_lt : (e : ℕ) → Among h.edges e → get_or (edge_sites edges) e none_at < length old.rows =
    λ e a. let w = within e a in let s = l.site_there e (omega arith) (live e a) in omega arith in
    subst (λ (z : List ℕ). AreReaders old slot (map (λ e. get_or (edge_sites edges) e none_at) z)) (sym met) (record {
      members = λ i. (
        λ c.
            let t = among_map (λ e. get_or (edge_sites edges) e none_at) h.edges i (contains_among (map (λ e. get_or (edge_sites edges) e none_at) h.edges) i c) in
            let w = within t.0 t.1 in
            let b = site_lt t.0 t.1 in
            let i_is = t.2 in
            subst (λ (z : List ℕ). Contains z slot) (sym (seen_row edges (length site_firsts) (length firsts) spare old view i (omega arith)))
            (among_contains (slots_of_site (slots_of edges) (edge_sites edges) i) slot
            (subst (λ (z : ℕ). Among (slots_of_site (slots_of edges) (edge_sites edges) i) z) (h.keyed.only t.0 t.1)
            (edge_row (slots_of edges) (edge_sites edges) i t.0 (omega arith) (omega arith) t.2))),
        λ linked.
            let i_lt : i < length site_firsts = linked_within old slot i (length site_firsts) linked count in
            let r = row_edge (slots_of edges) (edge_sites edges) i slot (contains_among (slots_of_site (slots_of edges) (edge_sites edges) i) slot
            (subst (λ (z : List ℕ). Contains z slot) (seen_row edges (length site_firsts) (length firsts) spare old view i i_lt) linked)) in
            among_contains (map (λ e. get_or (edge_sites edges) e none_at) h.edges) i
            (subst (λ (z : ℕ). Among (map (λ e. get_or (edge_sites edges) e none_at) h.edges) z) r.3
            (map_among (λ e. get_or (edge_sites edges) e none_at) h.edges r.0 (h.keyed.all r.0 r.1 r.4))),
      );
      once = λ i j li lj e.
          let len = length-map h.edges (λ e. get_or (edge_sites edges) e none_at) in
          let a = get_or-map (λ e. get_or (edge_sites edges) e none_at) h.edges i 0 0 (omega arith) in
          let b = get_or-map (λ e. get_or (edge_sites edges) e none_at) h.edges j 0 0 (omega arith) in
          let ai : Among h.edges (get_or h.edges i 0) = among_place h.edges i (omega arith) in
          let aj : Among h.edges (get_or h.edges j 0) = among_place h.edges j (omega arith) in
          fresh_places h.edges fresh i j (omega arith) (omega arith)
          (l.once (get_or h.edges i 0) (get_or h.edges j 0) (live (get_or h.edges i 0) ai)
          (h.keyed.only (get_or h.edges i 0) ai ∙ sym (h.keyed.only (get_or h.edges j 0) aj)) (sym a ∙ (e ∙ b)));
      within = All-from_get_or (λ i. i < length old.rows) (map (λ e. get_or (edge_sites edges) e none_at) h.edges) 0 (λ i li.
          let len = length-map h.edges (λ e. get_or (edge_sites edges) e none_at) in
          let a = get_or-map (λ e. get_or (edge_sites edges) e none_at) h.edges i 0 0 (omega arith) in
          let b = site_lt (get_or h.edges i 0) (among_place h.edges i (omega arith)) in
          omega arith);
    })

-- the same, from what is read of the edges
pub readers_read : {edges : List Edge} {firsts site_firsts : List ℕ} {free spare : ℕ} → IsGraph edges firsts site_firsts free spare
    → {opened : List Bool} (old : Edges) → seen edges (length site_firsts) (length firsts) spare opened ≡ old → (slot : ℕ) → slot < old.slots
    → (edges' : List Edge) → edges' ≡ edges → (at left : ℕ) → at ≡ get_or firsts slot at → left ≡ length edges
    → AreReaders old slot (map (λ e. get_or (edge_sites edges') e none_at) (walk left (nexts_of edges') at))
readers_read {edges} {firsts} g old view slot slot_in edges' same at left at_is left_is =
    let lt = slot_within g old view slot slot_in in
    subst (λ (z : List Edge). AreReaders old slot (map (λ e. get_or (edge_sites z) e none_at) (walk left (nexts_of z) at))) (sym same)
    (readers_met g old view slot lt at left (sym (get_or_read firsts slot at lt at_is none_at)) left_is)

-- a row has no slot twice, where no two edges have the same slot and site
pub row_fresh : (slots sites : List ℕ) (i : ℕ)
    → ((e f : ℕ) → e < length sites → f < length sites → get_or sites e none_at ≡ i → get_or sites f none_at ≡ i → get_or slots e none_at ≡ get_or slots f none_at → e ≡ f)
    → Fresh (slots_of_site slots sites i)
row_fresh [] sites i once = tt
row_fresh (s ∷ slots) [] i once = tt
row_fresh (s ∷ slots) (t ∷ sites) i once =
    let tail : Fresh (slots_of_site slots sites i) = row_fresh slots sites i (λ e f le lf se sf same.
    let q = once (suc e) (suc f) (omega arith) (omega arith) se sf same in omega arith) in
    elim (cases_eq t i) [
      | inl here ↦ subst (λ (z : List ℕ). Fresh z) (sym (row_yes s slots t sites i here)) (
        (λ h.
            let r = row_edge slots sites i s h in
            let l = r.2 in
            let q = once zero (suc r.0) (omega arith) (omega arith) here r.3 (sym r.4) in
            omega arith),
        tail,
      )
      | inr other ↦ subst (λ (z : List ℕ). Fresh z) (sym (row_no s slots t sites i other)) tail
    ]

-- what is true of every graph
pub row_distinct : {edges : List Edge} {firsts site_firsts : List ℕ} {free spare : ℕ} → IsGraph edges firsts site_firsts free spare
    → {opened : List Bool} (old : Edges) → seen edges (length site_firsts) (length firsts) spare opened ≡ old → (i : ℕ) → AreDistinct (get_or old.rows i [])
row_distinct {edges} {firsts} {site_firsts} {free} {spare} g old view i = elim (cases_lt i (length site_firsts)) [
  | inl lt ↦ subst AreDistinct (sym (seen_row edges (length site_firsts) (length firsts) spare old view i lt))
      (fresh_places (slots_of_site (slots_of edges) (edge_sites edges) i) (row_fresh (slots_of edges) (edge_sites edges) i
      (λ e f le lf se sf same. g.linked.once e f (λ q. let a = g.linked.sites_fit in omega arith) same (se ∙ sym sf))))
  | inr le ↦ subst AreDistinct (sym (get_or_past old.rows i [] (let n = seen_sites edges (length site_firsts) (length firsts) spare old view in omega arith)))
      (λ a b la lb e. absurd (omega arith))
]

pub linked_slot : {edges : List Edge} {firsts site_firsts : List ℕ} {free spare : ℕ} → IsGraph edges firsts site_firsts free spare
    → {opened : List Bool} (old : Edges) → seen edges (length site_firsts) (length firsts) spare opened ≡ old → (k i : ℕ) → IsLinked old k i → k < old.slots
linked_slot {edges} {firsts} {site_firsts} {free} {spare} g old view k i linked =
    let n = seen_sites edges (length site_firsts) (length firsts) spare old view in
    let lt : i < length site_firsts = linked_within old k i (length site_firsts) linked n in
    let r = row_edge (slots_of edges) (edge_sites edges) i k (contains_among (slots_of_site (slots_of edges) (edge_sites edges) i) k
    (subst (λ (z : List ℕ). Contains z k) (seen_row edges (length site_firsts) (length firsts) spare old view i lt) linked)) in
    let site_is = r.3 in
    let slot_is = r.4 in
    let fit = g.linked.sites_fit in
    let within = g.linked.slot_there r.0 r.1 (λ q. omega arith) in
    let s = ap (λ (x : Edges). x.slots) view in
    omega arith
