use Rattle.std.proofs.Common.{arith, ◌≡◌, ℕ, ◌+◌, ◌≤◌, IfOk, List, length, replicate, sym, ap, subst}
use Rattle.std.proofs.lemmas.List.{length-append, length-replicate}
use Rattle.ld_graph.specs.Edges.{Grows}
use Rattle.ld_graph.specs.Linked.{none_at}
use Rattle.ld_graph.specs.Columns.{slots_of, edge_sites, seen, IsGraph}
use Rattle.ld_graph.proofs.Rowed.{rows_length}
use Rattle.ld_graph.proofs.Growing.{graph_sites, grows_sites}
use Rattle.ld_graph.proofs.graph.Graph.grow_sites.Goals as goal

pub invariant_of-self : goal.invariant_of-self
invariant_of-self c =
    let wide = c.grow.ensures.widens in
    let fits = wide.fits in
    let is = ap (λ (x : List ℕ). length x) wide.items in
    let long = length-append c.self.inside.site_firsts.items (replicate wide.more none_at) in
    let rest = length-replicate wide.more none_at in
    subst (λ (x : List ℕ). IsGraph c.self.inside.edges.items c.self.inside.firsts.items x c.self.inside.free c.self.inside.spare) (sym wide.items)
    (graph_sites c.self.invariant wide.more (omega arith))

pub returns-clause-ok : goal.returns-clause-ok
returns-clause-ok c =
    let n = rows_length (slots_of c.self.inside.edges.items) (edge_sites c.self.inside.edges.items) (length c.grow.new.self.items) in
    subst (λ (n : ℕ). IfOk c.grow.result (λ x. c.args.sites ≤ n)) (sym n) c.grow.ensures.ok

pub returns-clause-grows : goal.returns-clause-grows
returns-clause-grows c =
    let wide = c.grow.ensures.widens in
    let fits = wide.fits in
    let is = ap (λ (x : List ℕ). length x) wide.items in
    let long = length-append c.self.inside.site_firsts.items (replicate wide.more none_at) in
    let rest = length-replicate wide.more none_at in
    let all : length c.self.inside.site_firsts.items + wide.more ≡ length c.grow.new.self.items = omega arith in
    subst (λ (n : ℕ). Grows c.args.self.now (seen c.self.inside.edges.items n (length c.self.inside.firsts.items) c.self.inside.spare c.grow.new.self.opened)) all
    (grows_sites c.self.invariant c.args.self.now c.self.view_is wide.more (omega arith) wide.opened)
