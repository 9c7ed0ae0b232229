use Rattle.std.proofs.Common.{◌≡◌, ◌∙◌, inl, inr, subst, sym, true}
use Rattle.std.proofs.lemmas.Bool.{cases_eq}
use Rattle.ld_graph.specs.Edges.{Edges}
use Rattle.ld_graph.specs.Table.{has}
use Rattle.ld_cascade.specs.Wiring.{EdgesAre}
use Rattle.ld_cascade_tests.specs.Lamps.{lamps, lamps_of}
use Rattle.ld_cascade_tests.proofs.tests.judgements.Goals as goal

pub settle-requires-2-clause-bound : goal.settle-requires-2-clause-bound
settle-requires-2-clause-bound g c =
    let settled = c.in_ok-_first.ensures in
    let fresh = c.fresh.ensures in
    record {
      edges_are = λ i out.
          subst (λ (es : Edges). EdgesAre es i (lamps.reads (lamps_of c.settle.new.sites) i)) (sym fresh.edges) (settled.tidy i).edges_are;
      dirty = λ i is_in. elim (cases_eq i c.args.site) [
        | inl is ↦ subst (λ n. has c.fresh.new.self.dirty n ≡ true) (sym is) fresh.dirty.there
        | inr other ↦ fresh.dirty.others i other ∙ settled.bound.dirty i (sym (fresh.loose.others i other) ∙ is_in)
      ];
    }
