use Rattle.std.proofs.Common.{◌≡◌, Bool, List, refl, sym, ap, ◌∙◌, subst, arith}
use Rattle.ld_graph.specs.Table.{has}
use Rattle.ld_graph.specs.Edges.{Edges}
use Rattle.ld_cascade.specs.Wiring.{Wiring}
use Rattle.ld_cascade.specs.Tidy.{IsTidy}
use Rattle.ld_cascade_tests.specs.Lamps.{lamps}
use Rattle.ld_cascade_tests.specs.Row.{Row}
use Rattle.ld_cascade_tests.specs.Settled.{AreSettled}

-- rows with the same lamps and the same marks are the same
pub rows_same : (a b : Row) → a.lit ≡ b.lit → a.marks ≡ b.marks → a ≡ b
rows_same a b lit marks = rw (lit, marks) refl

-- links of lamps that are settled are so once they began
pub settled_begun : {s : Row} {w w' : Wiring} → AreSettled s w → w'.edges ≡ w.edges → w'.dirty ≡ w.dirty → w'.sites ≡ w.sites
    → AreSettled s w'
settled_begun {s} {w} {w'} settled edges dirty sites = record {
  tidy = λ i. subst (λ (es : Edges). IsTidy lamps s es i) (sym edges) (settled.tidy i);
  none = λ i. ap (λ (table : List Bool). has table i) dirty ∙ settled.none i;
  covers = record {
    sites = let a = settled.covers.sites in omega arith;
    slots = let a = settled.covers.slots in let b = ap (λ (es : Edges). es.slots) edges in omega arith;
  };
}
