use Rattle.std.proofs.Common.{rules, arith, ◌≡◌, ℕ, ◌+◌, ◌++◌, ◌∷◌, [], List, length, refl, sym, ◌∙◌, ap, subst, vec_len}
use Rattle.std.proofs.lemmas.List.{length-map}
use Rattle.ld_graph.specs.declared.edge.Edge.{Edge}
use Rattle.ld_graph.specs.Edges.{Edges}
use Rattle.ld_graph.specs.Table.{has}
use Rattle.ld_graph.specs.Linked.{none_at, rows_of}
use Rattle.ld_graph.specs.Columns.{IsGraph, slots_of, edge_sites}
use Rattle.ld_graph.proofs.Rowed.{free_within}
use Rattle.ld_graph.proofs.Growing.{graph_edge, rows_edge, grows_spare}
use Rattle.ld_graph.proofs.graph.Graph.add_free.Goals as goal

pub overflow_add-self : goal.overflow_add-self
overflow_add-self c =
    let all = free_within (edge_sites c.self.inside.edges.items) in
    let is = c.self.invariant.spare_is in
    let less = c.if-count.false in
    let count = c.len-count.ensures in
    let was : vec_len c.self.inside.edges ≡ length c.self.inside.edges.items = search rules in
    omega (arith, length-map c.self.inside.edges.items (λ (e : Edge). e.site))

-- the edge that is put at the end
abbrev new : ℕ → Edge
new free = record { slot = none_at; site = none_at; next = none_at; before = none_at; site_next = free }

pub invariant_of-self-2 : goal.invariant_of-self-2
invariant_of-self-2 c =
    let less = c.if-count.false in
    let count = c.len-count.ensures in
    let was : vec_len c.self.inside.edges ≡ length c.self.inside.edges.items = search rules in
    let items : c.push.new.self.items ≡ c.self.inside.edges.items ++ new c.self.inside.free ∷ [] = c.in_ok-push.ensures.items in
    let end : length c.self.inside.edges.items ≡ c.len-count.result = omega arith in
    subst (λ (n : ℕ). IsGraph c.push.new.self.items c.self.inside.firsts.items c.self.inside.site_firsts.items n (c.self.inside.spare + 1)) end
    (subst (λ (x : List Edge). IsGraph x c.self.inside.firsts.items c.self.inside.site_firsts.items (length c.self.inside.edges.items) (c.self.inside.spare + 1)) (sym items)
    (graph_edge c.self.invariant (new c.self.inside.free) refl refl refl (omega arith)))

pub returns-clause-grows : goal.returns-clause-grows
returns-clause-grows c =
    let items : c.push.new.self.items ≡ c.self.inside.edges.items ++ new c.self.inside.free ∷ [] = c.in_ok-push.ensures.items in
    let spare = ap (λ (x : Edges). x.spare) c.self.view_is in
    grows_spare c.args.self.now _
    (ap (λ (x : List Edge). rows_of (slots_of x) (edge_sites x) (length c.self.inside.site_firsts.items)) items
    ∙ (rows_edge c.self.invariant (new c.self.inside.free) refl refl refl ∙ ap (λ (x : Edges). x.rows) c.self.view_is))
    (ap (λ (x : Edges). x.slots) c.self.view_is) (omega arith) (λ i was. ap (λ (x : Edges). has x.opened i) c.self.view_is ∙ was)
