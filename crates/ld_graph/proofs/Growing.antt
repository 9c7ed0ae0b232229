use Rattle.std.proofs.Common.{◌≡◌, ◌≢◌, ℕ, Bool, true, zero, suc, ◌+◌, ◌-◌, ◌<◌, ◌≤◌, inl, inr, cond, eqb, List, [], ◌∷◌, ◌++◌, length, get_or, replicate, sum_by, refl, sym, ◌∙◌, ap, subst, arith}
use Rattle.std.proofs.lemmas.Bool.{cases_eq, cases_lt}
use Rattle.std.proofs.lemmas.List.{get_or_past, get_or_default, get_or_append_left, get_or-append_right, get_or_push, get_or-replicate, length-replicate, length_push, length-append, length-map, map_push}
use Rattle.std.proofs.lemmas.List.FromFn.{sum_by-map-range_with_len_more}
use Rattle.ld_graph.specs.declared.edge.Edge.{Edge}
use Rattle.ld_graph.specs.Table.{has}
use Rattle.ld_graph.specs.Edges.{Edges, IsOpen, Grows}
use Rattle.ld_graph.specs.Linked.{none_at, Among, Follows, FollowsBack, AreKeyed, LeadsThrough, LeadsBackThrough, Linkage, slots_of_site, rows_of, free_count}
use Rattle.ld_graph.specs.Columns.{slots_of, edge_sites, nexts_of, befores_of, site_nexts_of, IsGraph}
use Rattle.ld_graph.proofs.Chains.{follows_within, forget}
use Rattle.ld_graph.proofs.Rowed.{row_edge, row_append, rows_at, rows_length, rows_past, rows_same}
use Rattle.ld_graph.proofs.Graphs.{seen_sites, none_among}
use Rattle.ld_graph.specs.Columns.{seen}
use Rattle.std.proofs.lemmas.List.Sums.{sum_by-append, sum_by-cons}

-- an entry of a column that is longer by one
at_end : (keys : List ℕ) (v e : ℕ) → e < length keys → get_or (keys ++ v ∷ []) e none_at ≡ get_or keys e none_at
at_end keys v e lt = get_or_append_left keys (v ∷ []) none_at e lt

-- links that lead on in longer columns
follows_longer : (next : List ℕ) (v first : ℕ) (xs : List ℕ) → Follows next first xs → Follows (next ++ v ∷ []) first xs
follows_longer next v first [] f = f
follows_longer next v first (x ∷ xs) f = (
  f.0,
  (let a = f.1 in let b = length_push next v in omega arith),
  subst (λ (z : ℕ). Follows (next ++ v ∷ []) z xs) (sym (at_end next v x f.1)) (follows_longer next v (get_or next x none_at) xs f.2),
)

back_longer : (next before : List ℕ) (v w prior first : ℕ) → length before ≡ length next → (xs : List ℕ) → FollowsBack next before prior first xs
    → FollowsBack (next ++ v ∷ []) (before ++ w ∷ []) prior first xs
back_longer next before v w prior first same [] f = f
back_longer next before v w prior first same (x ∷ xs) f = (
  f.0,
  (let a = f.1 in let b = length_push next v in omega arith),
  at_end before w x (let a = f.1 in omega arith) ∙ f.2,
  subst (λ (z : ℕ). FollowsBack (next ++ v ∷ []) (before ++ w ∷ []) x z xs) (sym (at_end next v x f.1))
      (back_longer next before v w x (get_or next x none_at) same xs f.3),
)

-- the edges of a key, where one of no key comes at the end
keyed_longer : (keys edges : List ℕ) (key : ℕ) → AreKeyed keys edges key → key ≢ none_at → ((e : ℕ) → Among edges e → e < length keys)
    → AreKeyed (keys ++ none_at ∷ []) edges key
keyed_longer keys edges key k ne within = record {
  all = λ e lt is. elim (cases_lt e (length keys)) [
    | inl old ↦ k.all e old (sym (at_end keys none_at e old) ∙ is)
    | inr end ↦ absurd (ne (sym is ∙ get_or_push keys none_at none_at e (let l = length_push keys none_at in omega arith)))
  ];
  only = λ e h. at_end keys none_at e (within e h) ∙ k.only e h;
}

module _ {slots sites next before site_next firsts site_firsts : List ℕ} {free : ℕ} (l : Linkage slots sites next before site_next firsts site_firsts free) where
  -- one more free edge
  pub linkage_edge : (n a b : ℕ) → n ≡ length slots → n < none_at
      → Linkage (slots ++ none_at ∷ []) (sites ++ none_at ∷ []) (next ++ a ∷ []) (before ++ b ∷ []) (site_next ++ free ∷ []) firsts site_firsts n
  linkage_edge n a b is lt =
      let fit = l.edges_fit in let sn = l.site_next_len in let sl = l.sites_len in let c = l.sites_fit in
      let d = l.slots_fit in let nl = l.next_len in let bl = l.before_len in
      let l1 = length_push slots none_at in let l2 = length_push sites none_at in let l3 = length_push next a in
      let l4 = length_push before b in let l5 = length_push site_next free in
      let live : (e : ℕ) → get_or (sites ++ none_at ∷ []) e none_at ≢ none_at → e < length slots = λ e ne. elim (cases_lt e (length sites)) [
        | inl within ↦ omega arith
        | inr past ↦ absurd (ne (elim (cases_eq e (length sites)) [
          | inl end ↦ get_or_push sites none_at none_at e (sym end)
          | inr beyond ↦ get_or_past (sites ++ none_at ∷ []) e none_at (omega arith)
        ]))
      ] in
      record {
        edges_fit = omega arith;
        slots_fit = omega arith;
        sites_fit = omega arith;
        sites_len = omega arith;
        next_len = omega arith;
        before_len = omega arith;
        site_next_len = omega arith;
        by_slot = λ s within. let h = l.by_slot s within in record {
          edges = h.edges;
          follows = back_longer next before a b none_at (get_or firsts s none_at) (omega arith) h.edges h.follows;
          keyed = keyed_longer slots h.edges s h.keyed (λ q. omega arith) (λ e x.
              let w = follows_within next (get_or firsts s none_at) h.edges (forget next before none_at (get_or firsts s none_at) h.edges h.follows) e x in omega arith);
        };
        by_site = λ t key. elim key [
          | inl within ↦
              let h = l.by_site t (inl within) in
              record {
                edges = h.edges;
                follows = subst (λ (z : ℕ). Follows (site_next ++ free ∷ []) z h.edges) (get_or_default site_firsts t free n within)
                    (follows_longer site_next free (get_or site_firsts t free) h.edges h.follows);
                keyed = keyed_longer sites h.edges t h.keyed (λ q. omega arith) (λ e x.
                    let w = follows_within site_next (get_or site_firsts t free) h.edges h.follows e x in omega arith);
              }
          | inr none ↦ subst (λ (z : ℕ). LeadsThrough (site_next ++ free ∷ []) (sites ++ none_at ∷ []) (get_or site_firsts z n) z) (sym none)
              (let h = l.by_site none_at (inr refl) in
              let first : get_or site_firsts none_at free ≡ free = get_or_past site_firsts none_at free c in
              record {
                edges = n ∷ h.edges;
                follows = (
                  get_or_past site_firsts none_at n c,
                  omega arith,
                  subst (λ (z : ℕ). Follows (site_next ++ free ∷ []) z h.edges)
                      (first ∙ sym (get_or_push site_next free none_at n (omega arith)))
                      (follows_longer site_next free (get_or site_firsts none_at free) h.edges h.follows),
                );
                keyed = record {
                  all = λ e within q. elim (cases_lt e (length sites)) [
                    | inl old ↦ inr (h.keyed.all e old (sym (at_end sites none_at e old) ∙ q))
                    | inr end ↦ inl (omega arith)
                  ];
                  only = λ e x. elim x [
                    | inl here ↦ get_or_push sites none_at none_at e (omega arith)
                    | inr was ↦
                        let w = follows_within site_next (get_or site_firsts none_at free) h.edges h.follows e was in
                        at_end sites none_at e (omega arith) ∙ h.keyed.only e was
                  ];
                };
              })
        ];
        slot_there = λ e within ne.
            let w = live e ne in
            let s1 = at_end slots none_at e w in
            let s2 = at_end sites none_at e (omega arith) in
            let o = l.slot_there e w (λ q. ne (s2 ∙ q)) in
            omega arith;
        site_there = λ e within ne.
            let w = live e ne in
            let s2 = at_end sites none_at e (omega arith) in
            let o = l.site_there e w (λ q. ne (s2 ∙ q)) in
            omega arith;
        no_slot = λ e q. elim (cases_lt e (length slots)) [
          | inl old ↦ at_end slots none_at e old ∙ l.no_slot e (sym (at_end sites none_at e (omega arith)) ∙ q)
          | inr past ↦ elim (cases_eq e (length slots)) [
            | inl end ↦ get_or_push slots none_at none_at e (sym end)
            | inr beyond ↦ get_or_past (slots ++ none_at ∷ []) e none_at (omega arith)
          ]
        ];
        once = λ e f ne slot_same site_same.
            let we = live e ne in
            let wf = live f (λ q. ne (site_same ∙ q)) in
            let te = at_end sites none_at e (omega arith) in
            let tf = at_end sites none_at f (omega arith) in
            l.once e f (λ q. ne (te ∙ q)) (sym (at_end slots none_at e we) ∙ (slot_same ∙ at_end slots none_at f wf)) (sym te ∙ (site_same ∙ tf));
      }

  -- more slots, which have no edge
  pub linkage_slots : (more : ℕ) → length firsts + more ≤ none_at
      → Linkage slots sites next before site_next (firsts ++ replicate more none_at) site_firsts free
  linkage_slots more fits =
      let long = length-append firsts (replicate more none_at) in
      let m = length-replicate more none_at in
      record {
        edges_fit = l.edges_fit;
        slots_fit = omega arith;
        sites_fit = l.sites_fit;
        sites_len = l.sites_len;
        next_len = l.next_len;
        before_len = l.before_len;
        site_next_len = l.site_next_len;
        by_slot = λ s within. elim (cases_lt s (length firsts)) [
          | inl old ↦ subst (λ (z : ℕ). LeadsBackThrough next before slots z s) (sym (get_or_append_left firsts (replicate more none_at) none_at s old)) (l.by_slot s old)
          | inr new ↦ record {
            edges = [];
            follows = get_or-append_right firsts (replicate more none_at) (length firsts) s none_at refl new
                ∙ get_or-replicate more (s - length firsts) none_at none_at (omega arith);
            keyed = record {
              all = λ e lt is.
                  let sl = l.slot_there e lt (λ q. let n = l.no_slot e q in omega arith) in
                  omega arith;
              only = λ e h. absurd h;
            };
          }
        ];
        by_site = l.by_site;
        slot_there = λ e lt ne. let s = l.slot_there e lt ne in omega arith;
        site_there = l.site_there;
        no_slot = l.no_slot;
        once = l.once;
      }

  -- more sites, which have no edge
  pub linkage_sites : (more : ℕ) → length site_firsts + more ≤ none_at
      → Linkage slots sites next before site_next firsts (site_firsts ++ replicate more none_at) free
  linkage_sites more fits =
      let long = length-append site_firsts (replicate more none_at) in
      let m = length-replicate more none_at in
      let sl = l.sites_len in
      record {
        edges_fit = l.edges_fit;
        slots_fit = l.slots_fit;
        sites_fit = omega arith;
        sites_len = l.sites_len;
        next_len = l.next_len;
        before_len = l.before_len;
        site_next_len = l.site_next_len;
        by_slot = l.by_slot;
        by_site = λ t key. elim (cases_lt t (length site_firsts)) [
          | inl old ↦ subst (λ (z : ℕ). LeadsThrough site_next sites z t) (sym (get_or_append_left site_firsts (replicate more none_at) free t old)) (l.by_site t (inl old))
          | inr new ↦ elim key [
            | inl within ↦ record {
              edges = [];
              follows = get_or-append_right site_firsts (replicate more none_at) (length site_firsts) t free refl new
                  ∙ get_or-replicate more (t - length site_firsts) none_at free (omega arith);
              keyed = record {
                all = λ e lt is. let s = l.site_there e (omega arith) (λ q. omega arith) in omega arith;
                only = λ e h. absurd h;
              };
            }
            | inr none ↦ subst (λ (z : ℕ). LeadsThrough site_next sites z t)
                (get_or_past site_firsts t free new ∙ sym (get_or_past (site_firsts ++ replicate more none_at) t free (omega arith)))
                (l.by_site t (inr none))
          ]
        ];
        slot_there = l.slot_there;
        site_there = λ e lt ne. let s = l.site_there e lt ne in omega arith;
        no_slot = l.no_slot;
        once = l.once;
      }

  -- a site out of range has no edge
  pub row_beyond : (i : ℕ) → length site_firsts ≤ i → i < none_at → slots_of_site slots sites i ≡ []
  row_beyond i le lt = none_among (slots_of_site slots sites i) (λ k h.
      let r = row_edge slots sites i k h in
      let is = r.3 in
      let s = l.site_there r.0 r.1 (λ q. omega arith) in
      omega arith)

-- the number of pairs, over more sites that have none
pairs_more : (slots sites : List ℕ) (count more : ℕ) → ((i : ℕ) → count ≤ i → i < count + more → slots_of_site slots sites i ≡ [])
    → sum_by (λ (x : List ℕ). length x) (rows_of slots sites (count + more)) ≡ sum_by (λ (x : List ℕ). length x) (rows_of slots sites count)
pairs_more slots sites count zero none =
    let e : count + zero ≡ count = omega arith in
    ap (λ (n : ℕ). sum_by (λ (x : List ℕ). length x) (rows_of slots sites n)) e
pairs_more slots sites count (suc more) none =
    let step = sum_by-map-range_with_len_more (λ (x : List ℕ). length x) (slots_of_site slots sites) 0 (count + more) (count + more) (omega arith) in
    let rest = pairs_more slots sites count more (λ i le lt. none i le (omega arith)) in
    let gone = ap (λ (x : List ℕ). length x) (none (count + more) (omega arith) (omega arith)) in
    let same = ap (λ (n : ℕ). sum_by (λ (x : List ℕ). length x) (rows_of slots sites n)) (let e : count + suc more ≡ count + more + 1 = omega arith in e) in
    omega arith

-- nothing grows
pub grows_none : (g : Edges) → Grows g g
grows_none g = record { rows = λ i. refl; sites = omega arith; slots = omega arith; spare = omega arith; pairs = refl; opened = λ i is_open. is_open }

pub grows_then : {a b c : Edges} → Grows a b → Grows b c → Grows a c
grows_then p q = record {
  rows = λ i. q.rows i ∙ p.rows i;
  sites = let x = p.sites in let y = q.sites in omega arith;
  slots = let x = p.slots in let y = q.slots in omega arith;
  spare = let x = p.spare in let y = q.spare in omega arith;
  pairs = q.pairs ∙ p.pairs;
  opened = λ i is_open. q.opened i (p.opened i is_open);
}

-- more slots are in range
pub grows_slots : (g : Edges) (more : ℕ) → g.slots ≤ more → Grows g (record g { slots = more })
grows_slots g more le = record { rows = λ i. refl; sites = omega arith; slots = le; spare = omega arith; pairs = refl; opened = λ i is_open. is_open }

-- the rows stay, more edges may be free and more sites open
pub grows_spare : (old new : Edges) → new.rows ≡ old.rows → new.slots ≡ old.slots → old.spare ≤ new.spare
    → ((i : ℕ) → IsOpen old i → IsOpen new i) → Grows old new
grows_spare old new rows slots spare opened = record {
  rows = λ i. ap (λ (x : List (List ℕ)). get_or x i []) rows;
  sites = let e = ap (λ (x : List (List ℕ)). length x) rows in omega arith;
  slots = omega arith;
  spare = spare;
  pairs = ap (λ (x : List (List ℕ)). sum_by length x) rows;
  opened = opened;
}

module _ {edges : List Edge} {firsts site_firsts : List ℕ} {free spare : ℕ} (g : IsGraph edges firsts site_firsts free spare) where
  pub graph_slots : (more : ℕ) → length firsts + more ≤ none_at → IsGraph edges (firsts ++ replicate more none_at) site_firsts free spare
  graph_slots more fits = record { linked = linkage_slots g.linked more fits; spare_is = g.spare_is }

  pub graph_sites : (more : ℕ) → length site_firsts + more ≤ none_at → IsGraph edges firsts (site_firsts ++ replicate more none_at) free spare
  graph_sites more fits = record { linked = linkage_sites g.linked more fits; spare_is = g.spare_is }

  -- more sites are in range
  pub grows_sites : {opened opened' : List Bool} (old : Edges) → seen edges (length site_firsts) (length firsts) spare opened ≡ old → (more : ℕ) → length site_firsts + more ≤ none_at
      → ((i : ℕ) → has opened i ≡ true → has opened' i ≡ true) → Grows old (seen edges (length site_firsts + more) (length firsts) spare opened')
  grows_sites old view more fits opens = record {
    rows = λ i. elim (cases_lt i (length site_firsts)) [
      | inl lt ↦ rows_at (slots_of edges) (edge_sites edges) (length site_firsts + more) i (omega arith)
          ∙ (sym (rows_at (slots_of edges) (edge_sites edges) (length site_firsts) i lt) ∙ ap (λ (x : Edges). get_or x.rows i []) view)
      | inr le ↦ elim (cases_lt i (length site_firsts + more)) [
        | inl within ↦ rows_at (slots_of edges) (edge_sites edges) (length site_firsts + more) i within
            ∙ row_beyond g.linked i le (omega arith)
        | inr past ↦ rows_past (slots_of edges) (edge_sites edges) (length site_firsts + more) i past
      ]
          ∙ (sym (rows_past (slots_of edges) (edge_sites edges) (length site_firsts) i le) ∙ ap (λ (x : Edges). get_or x.rows i []) view)
    ];
    sites =
        let a = seen_sites edges (length site_firsts) (length firsts) spare old view in
        let b = rows_length (slots_of edges) (edge_sites edges) (length site_firsts + more) in
        omega arith;
    slots = let e = ap (λ (x : Edges). x.slots) view in omega arith;
    spare = let e = ap (λ (x : Edges). x.spare) view in omega arith;
    pairs = pairs_more (slots_of edges) (edge_sites edges) (length site_firsts) more (λ i le lt. row_beyond g.linked i le (omega arith))
        ∙ ap (λ (x : Edges). sum_by length x.rows) view;
    opened = λ i is_open. opens i (ap (λ (x : Edges). has x.opened i) view ∙ is_open);
  }

  -- one more edge is free
  module _ (edge : Edge) (no_slot : edge.slot ≡ none_at) (no_site : edge.site ≡ none_at) (next_is : edge.site_next ≡ free) where
    pub graph_edge : length edges < none_at → IsGraph (edges ++ edge ∷ []) firsts site_firsts (length edges) (spare + 1)
    graph_edge lt = record {
      linked =
          subst (λ (z : List ℕ). Linkage z (edge_sites (edges ++ edge ∷ [])) (nexts_of (edges ++ edge ∷ [])) (befores_of (edges ++ edge ∷ [])) (site_nexts_of (edges ++ edge ∷ [])) firsts site_firsts (length edges))
          (sym (map_push (λ (e : Edge). e.slot) edges edge ∙ ap (λ (x : ℕ). slots_of edges ++ x ∷ []) no_slot))
          (subst (λ (z : List ℕ). Linkage (slots_of edges ++ none_at ∷ []) z (nexts_of (edges ++ edge ∷ [])) (befores_of (edges ++ edge ∷ [])) (site_nexts_of (edges ++ edge ∷ [])) firsts site_firsts (length edges))
          (sym (map_push (λ (e : Edge). e.site) edges edge ∙ ap (λ (x : ℕ). edge_sites edges ++ x ∷ []) no_site))
          (subst (λ (z : List ℕ). Linkage (slots_of edges ++ none_at ∷ []) (edge_sites edges ++ none_at ∷ []) z (befores_of (edges ++ edge ∷ [])) (site_nexts_of (edges ++ edge ∷ [])) firsts site_firsts (length edges))
          (sym (map_push (λ (e : Edge). e.next) edges edge))
          (subst (λ (z : List ℕ). Linkage (slots_of edges ++ none_at ∷ []) (edge_sites edges ++ none_at ∷ []) (nexts_of edges ++ edge.next ∷ []) z (site_nexts_of (edges ++ edge ∷ [])) firsts site_firsts (length edges))
          (sym (map_push (λ (e : Edge). e.before) edges edge))
          (subst (λ (z : List ℕ). Linkage (slots_of edges ++ none_at ∷ []) (edge_sites edges ++ none_at ∷ []) (nexts_of edges ++ edge.next ∷ []) (befores_of edges ++ edge.before ∷ []) z firsts site_firsts (length edges))
          (sym (map_push (λ (e : Edge). e.site_next) edges edge ∙ ap (λ (x : ℕ). site_nexts_of edges ++ x ∷ []) next_is))
          (linkage_edge g.linked (length edges) edge.next edge.before (sym (length-map edges (λ (e : Edge). e.slot))) lt)))));
      spare_is =
          let had = g.spare_is in
          let m = ap free_count (map_push (λ (e : Edge). e.site) edges edge ∙ ap (λ (x : ℕ). edge_sites edges ++ x ∷ []) no_site) in
          let s = sum_by-append (λ (t : ℕ). cond (eqb t none_at) 1 0) (edge_sites edges) (none_at ∷ []) in
          let o = sum_by-cons (λ (t : ℕ). cond (eqb t none_at) 1 0) none_at [] in
          omega arith;
    }

    pub rows_edge : rows_of (slots_of (edges ++ edge ∷ [])) (edge_sites (edges ++ edge ∷ [])) (length site_firsts) ≡ rows_of (slots_of edges) (edge_sites edges) (length site_firsts)
    rows_edge = rows_same (slots_of edges) (edge_sites edges) (slots_of (edges ++ edge ∷ [])) (edge_sites (edges ++ edge ∷ [])) (length site_firsts) (λ j lt.
        ap (λ (z : List ℕ). slots_of_site z (edge_sites (edges ++ edge ∷ [])) j) (map_push (λ (e : Edge). e.slot) edges edge)
        ∙ (ap (λ (z : List ℕ). slots_of_site (slots_of edges ++ edge.slot ∷ []) z j) (map_push (λ (e : Edge). e.site) edges edge)
        ∙ row_append (slots_of edges) (edge_sites edges) edge.slot edge.site j
        (length-map edges (λ (e : Edge). e.site) ∙ sym (length-map edges (λ (e : Edge). e.slot)))
        (λ q. let f = g.linked.sites_fit in omega arith)))
