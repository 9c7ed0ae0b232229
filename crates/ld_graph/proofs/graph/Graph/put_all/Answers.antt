use Rattle.std.proofs.Common.{rules, arith, ℕ, List, Contains, get_or, refl, sym, subst}
use Rattle.std.proofs.lemmas.List.Elements.{Contains-get_or}
use Rattle.ld_graph.specs.Slots.{AreDistinct}
use Rattle.ld_graph.proofs.Changing.{changes_then, has_first_new, has_first_more, has_all}
use Rattle.ld_graph.proofs.graph.Graph.put_all.Goals as goal

pub put_on-requires-clause-slot : goal.put_on-requires-clause-slot
put_on-requires-clause-slot c =
    let below = c.requires.slots (get_or c.as_slice-items.result.now c.loop-slot.slot-index 0)
    (subst (λ (x : List ℕ). Contains x (get_or c.as_slice-items.result.now c.loop-slot.slot-index 0)) c.as_slice-items.ensures.value
    (Contains-get_or c.as_slice-items.result.now c.loop-slot.slot-index 0 c.loop-slot-test.true)) in
    let same = c.loop-slot.invariant.0.slots in
    omega arith

pub put_on-requires-clause-new : goal.put_on-requires-clause-new
put_on-requires-clause-new c =
    has_first_new c.loop-slot.invariant.1 (subst AreDistinct (sym c.as_slice-items.ensures.value) c.as_slice-items.ensures.once) c.loop-slot-test.true

pub loop-slot-preserved : goal.loop-slot-preserved
loop-slot-preserved c = (
  changes_then c.loop-slot.invariant.0 c.put_on.ensures.changes c.requires.site,
  has_first_more (get_or c.as_slice-items.result.now c.loop-slot.slot-index 0) c.loop-slot.invariant.1 refl c.put_on.ensures.more c.put_on.ensures.own,
)

pub returns-clause-own : goal.returns-clause-own
returns-clause-own c k =
    let own = has_all c.loop-slot.invariant.1 (search rules) k in (
      λ h. subst (λ (x : List ℕ). Contains x k) c.as_slice-items.ensures.value (own.0 h),
      λ h. own.1 (subst (λ (x : List ℕ). Contains x k) (sym c.as_slice-items.ensures.value) h),
    )
