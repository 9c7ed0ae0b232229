use Rattle.std.proofs.Common.{rules, arith, ◌≡◌, ℕ, ◌+◌, Bool, List, [], length, get_or, set, refl, sym, ◌∙◌, ap, subst}
use Rattle.std.proofs.lemmas.List.{length-map, length-set}
use Rattle.ld_graph.specs.declared.edge.Edge.{Edge}
use Rattle.ld_graph.specs.Edges.{Changes}
use Rattle.ld_graph.specs.Linked.{none_at, rows_of}
use Rattle.ld_graph.specs.Columns.{slots_of, edge_sites, seen, IsGraph}
use Rattle.ld_graph.proofs.Rowed.{free_more, free_within}
use Rattle.ld_graph.proofs.Graphs.{site_within, seen_row, no_first, first_there, has_site, beside_first, graph_less, changes_less, less_by_one}
use Rattle.ld_graph.proofs.graph.Graph.take_off.Goals as goal

pub get-first-requires : goal.get-first-requires
get-first-requires c =
    let lt = site_within c.self.invariant c.args.self.now c.self.view_is c.args.site c.requires in search rules

pub returns-then-first-clause-none : goal.returns-then-first-clause-none
returns-then-first-clause-none c _ =
    let lt = site_within c.self.invariant c.args.self.now c.self.view_is c.args.site c.requires in
    let is = sym c.get-first.ensures.value in (
      seen_row c.self.inside.edges.items (length c.self.inside.site_firsts.items) (length c.self.inside.firsts.items) c.self.inside.spare c.args.self.now c.self.view_is c.args.site lt
          ∙ no_first c.self.invariant.linked c.args.site lt (is ∙ c.if-first.true),
      refl,
    )

pub index-edge-requires : goal.index-edge-requires
index-edge-requires c =
    let lt = site_within c.self.invariant c.args.self.now c.self.view_is c.args.site c.requires in
    let is = sym c.get-first.ensures.value in
    let there = first_there c.self.invariant c.args.site c.get-first.result lt is c.if-first.false in
    let at = there.0 in search rules

pub part-requires-clause-before : goal.part-requires-clause-before
part-requires-clause-before c =
    let lt = site_within c.self.invariant c.args.self.now c.self.view_is c.args.site c.requires in
    let is = sym c.get-first.ensures.value in
    (beside_first c.self.invariant c.args.site c.get-first.result lt is c.if-first.false c.index-edge.result.now c.index-edge.ensures).0

pub part-requires-clause-next : goal.part-requires-clause-next
part-requires-clause-next c =
    let lt = site_within c.self.invariant c.args.self.now c.self.view_is c.args.site c.requires in
    let is = sym c.get-first.ensures.value in
    (beside_first c.self.invariant c.args.site c.get-first.result lt is c.if-first.false c.index-edge.result.now c.index-edge.ensures).1

pub part-requires-clause-slot : goal.part-requires-clause-slot
part-requires-clause-slot c =
    let lt = site_within c.self.invariant c.args.self.now c.self.view_is c.args.site c.requires in
    let is = sym c.get-first.ensures.value in
    (beside_first c.self.invariant c.args.site c.get-first.result lt is c.if-first.false c.index-edge.result.now c.index-edge.ensures).2

pub replace-requires-clause-site : goal.replace-requires-clause-site
replace-requires-clause-site c =
    let lt = site_within c.self.invariant c.args.self.now c.self.view_is c.args.site c.requires in search rules

pub replace-requires-clause-opened : goal.replace-requires-clause-opened
replace-requires-clause-opened c = c.get-first.ensures.opened c.if-first.false

pub set_free-requires : goal.set_free-requires
set_free-requires c =
    let lt = site_within c.self.invariant c.args.self.now c.self.view_is c.args.site c.requires in
    let is = sym c.get-first.ensures.value in
    let there = first_there c.self.invariant c.args.site c.get-first.result lt is c.if-first.false in
    let a = there.0 in
    let e = ap (λ (x : List ℕ). length x) c.part.ensures.columns.slots_are in
    omega (arith, length-map c.part.new.edges.items (λ (e : Edge). e.slot), length-map c.self.inside.edges.items (λ (e : Edge). e.slot))

pub overflow_add-self : goal.overflow_add-self
overflow_add-self c =
    let lt = site_within c.self.invariant c.args.self.now c.self.view_is c.args.site c.requires in
    let is = sym c.get-first.ensures.value in
    let there = first_there c.self.invariant c.args.site c.get-first.result lt is c.if-first.false in
    let a = there.0 in
    let fit = c.self.invariant.linked.edges_fit in
    let is_spare = c.self.invariant.spare_is in
    let more = free_more (edge_sites c.self.inside.edges.items) c.get-first.result (omega (arith, length-map c.self.inside.edges.items (λ (e : Edge). e.site)))
    (has_site c.self.invariant c.args.site c.get-first.result lt is c.if-first.false) in
    let all = free_within (set (edge_sites c.self.inside.edges.items) c.get-first.result none_at) in
    omega (arith, length-set (edge_sites c.self.inside.edges.items) c.get-first.result none_at, length-map c.self.inside.edges.items (λ (e : Edge). e.site), length-map c.self.inside.edges.items (λ (e : Edge). e.slot))

pub invariant_of-self : goal.invariant_of-self
invariant_of-self c =
    let lt = site_within c.self.invariant c.args.self.now c.self.view_is c.args.site c.requires in
    let is = sym c.get-first.ensures.value in
    subst (λ (x : List ℕ). IsGraph c.set_free.new.edges.items c.part.new.firsts.items x c.get-first.result (c.self.inside.spare + 1)) (sym c.replace.ensures.items)
    (graph_less c.self.invariant c.args.site c.get-first.result lt is c.if-first.false c.index-edge.result.now c.index-edge.ensures c.part.ensures.columns c.part.ensures.first c.part.ensures.middle c.set_free.ensures)

pub returns-clause-some : goal.returns-clause-some
returns-clause-some c _ =
    let lt = site_within c.self.invariant c.args.self.now c.self.view_is c.args.site c.requires in
    let is = sym c.get-first.ensures.value in
    subst (λ (x : List ℕ). Changes c.args.self.now (seen c.set_free.new.edges.items (length x) (length c.part.new.firsts.items) (c.self.inside.spare + 1) c.replace.new.self.opened) c.args.site) (sym c.replace.ensures.items)
    (subst (λ (o : List Bool). Changes c.args.self.now (seen c.set_free.new.edges.items (length (set c.self.inside.site_firsts.items c.args.site c.index-edge.result.now.site_next)) (length c.part.new.firsts.items) (c.self.inside.spare + 1) o) c.args.site) (sym c.replace.ensures.opened)
    (changes_less c.self.invariant c.args.site c.get-first.result lt is c.if-first.false c.index-edge.result.now c.index-edge.ensures c.part.ensures.columns c.part.ensures.first c.part.ensures.middle c.set_free.ensures c.args.self.now c.self.view_is))

pub returns-clause-less : goal.returns-clause-less
returns-clause-less c _ =
    let lt = site_within c.self.invariant c.args.self.now c.self.view_is c.args.site c.requires in
    let is = sym c.get-first.ensures.value in
    subst (λ (x : List ℕ). length (get_or (rows_of (slots_of c.set_free.new.edges.items) (edge_sites c.set_free.new.edges.items) (length x)) c.args.site []) + 1 ≡ length (get_or c.args.self.now.rows c.args.site [])) (sym c.replace.ensures.items)
    (less_by_one c.self.invariant c.args.site c.get-first.result lt is c.if-first.false c.index-edge.result.now c.index-edge.ensures c.part.ensures.columns c.part.ensures.first c.part.ensures.middle c.set_free.ensures c.args.self.now c.self.view_is)
