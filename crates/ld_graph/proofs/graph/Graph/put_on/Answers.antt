use Rattle.std.proofs.Common.{rules, arith, ◌≡◌, ℕ, ◌+◌, ◌-◌, ◌⊎◌, inl, inr, Bool, List, [], Contains, length, get_or, set, sym, ◌∙◌, ap, subst}
use Rattle.std.proofs.lemmas.List.{get_or_read, length-map, length-set}
use Rattle.ld_graph.specs.declared.edge.Edge.{Edge}
use Rattle.ld_graph.specs.Edges.{Edges, IsLinked, Changes}
use Rattle.ld_graph.specs.Table.{has}
use Rattle.ld_graph.specs.Linked.{none_at, rows_of}
use Rattle.ld_graph.specs.Columns.{slots_of, edge_sites, seen, IsGraph}
use Rattle.ld_graph.proofs.Graphs.{site_within, slot_within, spare_within, free_is, slot_edge, graph_more, changes_more, more_by_one, own_row, no_edge, column_at}
use Rattle.ld_graph.proofs.graph.Graph.put_on.Goals as goal

pub index-requires : goal.index-requires
index-requires c =
    let slot_lt = slot_within c.self.invariant c.args.self.now c.self.view_is c.args.slot c.requires.slot in
    let lt = site_within c.self.invariant c.args.self.now c.self.view_is c.args.site c.requires.site in
    let room = spare_within c.self.invariant c.args.self.now c.self.view_is c.requires.spare in
    let free = free_is c.self.invariant c.args.slot c.args.site slot_lt lt room in
    let at = free.0 in search rules

pub set_edge-requires : goal.set_edge-requires
set_edge-requires c =
    let slot_lt = slot_within c.self.invariant c.args.self.now c.self.view_is c.args.slot c.requires.slot in
    let lt = site_within c.self.invariant c.args.self.now c.self.view_is c.args.site c.requires.site in
    let room = spare_within c.self.invariant c.args.self.now c.self.view_is c.requires.spare in
    let free = free_is c.self.invariant c.args.slot c.args.site slot_lt lt room in
    free.0

pub set_before-requires-clause-at : goal.set_before-requires-clause-at
set_before-requires-clause-at c =
    let slot_lt = slot_within c.self.invariant c.args.self.now c.self.view_is c.args.slot c.requires.slot in
    let lt = site_within c.self.invariant c.args.self.now c.self.view_is c.args.site c.requires.site in
    let room = spare_within c.self.invariant c.args.self.now c.self.view_is c.requires.spare in
    let free = free_is c.self.invariant c.args.slot c.args.site slot_lt lt room in
    let next_is = get_or_read c.self.inside.firsts.items c.args.slot c.index-next.result.now slot_lt c.index-next.ensures none_at in
    let len = ap (λ (x : List ℕ). length x) c.set_edge.ensures.slots_are in
    elim (slot_edge c.self.invariant.linked c.args.slot slot_lt) [
      | inl gone ↦ inl (next_is ∙ gone)
      | inr there ↦ inr (omega (
        arith,
        length-map c.set_edge.new.edges.items (λ (e : Edge). e.slot),
        length-map c.self.inside.edges.items (λ (e : Edge). e.slot),
        length-set (slots_of c.self.inside.edges.items) c.self.inside.free c.args.slot,
      ))
    ]

pub replace-site_next-requires-clause-site : goal.replace-site_next-requires-clause-site
replace-site_next-requires-clause-site c =
    site_within c.self.invariant c.args.self.now c.self.view_is c.args.site c.requires.site

pub replace-site_next-requires-clause-opened : goal.replace-site_next-requires-clause-opened
replace-site_next-requires-clause-opened c = ap (λ (x : Edges). has x.opened c.args.site) c.self.view_is ∙ c.requires.opened

pub invariant_of-self : goal.invariant_of-self
invariant_of-self c =
    let slot_lt = slot_within c.self.invariant c.args.self.now c.self.view_is c.args.slot c.requires.slot in
    let lt = site_within c.self.invariant c.args.self.now c.self.view_is c.args.site c.requires.site in
    let room = spare_within c.self.invariant c.args.self.now c.self.view_is c.requires.spare in
    let free = free_is c.self.invariant c.args.slot c.args.site slot_lt lt room in
    let next_is = get_or_read c.self.inside.firsts.items c.args.slot c.index-next.result.now slot_lt c.index-next.ensures none_at in
    let next_free_is = column_at (λ (e : Edge). e.site_next) c.self.inside.edges.items c.self.inside.free c.index.result.now free.0 c.index.ensures in
    let new = no_edge c.self.inside.edges.items (length c.self.inside.site_firsts.items) (length c.self.inside.firsts.items) c.self.inside.spare c.args.self.now c.self.view_is
    c.args.slot c.args.site lt c.requires.new in
    let one_less : c.self.inside.spare - 1 + 1 ≡ c.self.inside.spare = omega arith in
    subst (λ (x : List ℕ). IsGraph c.set_before.new.edges.items (set c.self.inside.firsts.items c.args.slot c.self.inside.free) x c.index.result.now.site_next (c.self.inside.spare - 1)) (sym c.replace-site_next.ensures.items)
    (graph_more c.self.invariant c.args.slot c.args.site slot_lt lt room new c.index-next.result.now c.replace-site_next.result c.index.result.now.site_next (c.self.inside.spare - 1)
    next_is c.replace-site_next.ensures.was next_free_is one_less c.set_edge.ensures c.set_before.ensures)

pub returns-clause-changes : goal.returns-clause-changes
returns-clause-changes c =
    let slot_lt = slot_within c.self.invariant c.args.self.now c.self.view_is c.args.slot c.requires.slot in
    let lt = site_within c.self.invariant c.args.self.now c.self.view_is c.args.site c.requires.site in
    let room = spare_within c.self.invariant c.args.self.now c.self.view_is c.requires.spare in
    let free = free_is c.self.invariant c.args.slot c.args.site slot_lt lt room in
    let next_is = get_or_read c.self.inside.firsts.items c.args.slot c.index-next.result.now slot_lt c.index-next.ensures none_at in
    let next_free_is = column_at (λ (e : Edge). e.site_next) c.self.inside.edges.items c.self.inside.free c.index.result.now free.0 c.index.ensures in
    let new = no_edge c.self.inside.edges.items (length c.self.inside.site_firsts.items) (length c.self.inside.firsts.items) c.self.inside.spare c.args.self.now c.self.view_is
    c.args.slot c.args.site lt c.requires.new in
    let one_less : c.self.inside.spare - 1 + 1 ≡ c.self.inside.spare = omega arith in
    subst (λ (x : List ℕ). Changes c.args.self.now (seen c.set_before.new.edges.items (length x) (length (set c.self.inside.firsts.items c.args.slot c.self.inside.free)) (c.self.inside.spare - 1) c.replace-site_next.new.self.opened) c.args.site) (sym c.replace-site_next.ensures.items)
    (subst (λ (o : List Bool). Changes c.args.self.now (seen c.set_before.new.edges.items (length (set c.self.inside.site_firsts.items c.args.site c.self.inside.free)) (length (set c.self.inside.firsts.items c.args.slot c.self.inside.free)) (c.self.inside.spare - 1) o) c.args.site) (sym c.replace-site_next.ensures.opened)
    (changes_more c.self.invariant c.args.slot c.args.site slot_lt lt room new c.index-next.result.now c.replace-site_next.result c.index.result.now.site_next (c.self.inside.spare - 1)
    next_is c.replace-site_next.ensures.was next_free_is one_less c.set_edge.ensures c.set_before.ensures c.args.self.now c.self.view_is))

pub returns-clause-more : goal.returns-clause-more
returns-clause-more c =
    let slot_lt = slot_within c.self.invariant c.args.self.now c.self.view_is c.args.slot c.requires.slot in
    let lt = site_within c.self.invariant c.args.self.now c.self.view_is c.args.site c.requires.site in
    let room = spare_within c.self.invariant c.args.self.now c.self.view_is c.requires.spare in
    let free = free_is c.self.invariant c.args.slot c.args.site slot_lt lt room in
    let next_is = get_or_read c.self.inside.firsts.items c.args.slot c.index-next.result.now slot_lt c.index-next.ensures none_at in
    let next_free_is = column_at (λ (e : Edge). e.site_next) c.self.inside.edges.items c.self.inside.free c.index.result.now free.0 c.index.ensures in
    let new = no_edge c.self.inside.edges.items (length c.self.inside.site_firsts.items) (length c.self.inside.firsts.items) c.self.inside.spare c.args.self.now c.self.view_is
    c.args.slot c.args.site lt c.requires.new in
    let one_less : c.self.inside.spare - 1 + 1 ≡ c.self.inside.spare = omega arith in
    subst (λ (x : List ℕ). length (get_or (rows_of (slots_of c.set_before.new.edges.items) (edge_sites c.set_before.new.edges.items) (length x)) c.args.site []) ≡ length (get_or c.args.self.now.rows c.args.site []) + 1) (sym c.replace-site_next.ensures.items)
    (more_by_one c.self.invariant c.args.slot c.args.site slot_lt lt room new c.index-next.result.now c.replace-site_next.result c.index.result.now.site_next (c.self.inside.spare - 1)
    next_is c.replace-site_next.ensures.was next_free_is one_less c.set_edge.ensures c.set_before.ensures c.args.self.now c.self.view_is)

pub returns-clause-own : goal.returns-clause-own
returns-clause-own c k =
    let slot_lt = slot_within c.self.invariant c.args.self.now c.self.view_is c.args.slot c.requires.slot in
    let lt = site_within c.self.invariant c.args.self.now c.self.view_is c.args.site c.requires.site in
    let room = spare_within c.self.invariant c.args.self.now c.self.view_is c.requires.spare in
    let free = free_is c.self.invariant c.args.slot c.args.site slot_lt lt room in
    let next_is = get_or_read c.self.inside.firsts.items c.args.slot c.index-next.result.now slot_lt c.index-next.ensures none_at in
    let next_free_is = column_at (λ (e : Edge). e.site_next) c.self.inside.edges.items c.self.inside.free c.index.result.now free.0 c.index.ensures in
    let new = no_edge c.self.inside.edges.items (length c.self.inside.site_firsts.items) (length c.self.inside.firsts.items) c.self.inside.spare c.args.self.now c.self.view_is
    c.args.slot c.args.site lt c.requires.new in
    let one_less : c.self.inside.spare - 1 + 1 ≡ c.self.inside.spare = omega arith in
    subst (λ (x : List ℕ). (Contains (get_or (rows_of (slots_of c.set_before.new.edges.items) (edge_sites c.set_before.new.edges.items) (length x)) c.args.site []) k → (k ≡ c.args.slot) ⊎ IsLinked c.args.self.now k c.args.site)
    × ((k ≡ c.args.slot) ⊎ IsLinked c.args.self.now k c.args.site → Contains (get_or (rows_of (slots_of c.set_before.new.edges.items) (edge_sites c.set_before.new.edges.items) (length x)) c.args.site []) k)) (sym c.replace-site_next.ensures.items)
    (own_row c.self.invariant c.args.slot c.args.site slot_lt lt room new c.index-next.result.now c.replace-site_next.result c.index.result.now.site_next (c.self.inside.spare - 1)
    next_is c.replace-site_next.ensures.was next_free_is one_less c.set_edge.ensures c.set_before.ensures c.args.self.now c.self.view_is k)
