use Rattle.std.proofs.Common.{arith, ℕ, List, Contains, sym, subst}
use Rattle.ld_structures_tests.proofs.graph.are_in_range.Goals as goal

pub returns-then-site-sites-clause-slots : goal.returns-then-site-sites-clause-slots
returns-then-site-sites-clause-slots c all k h =
    let in_slice : Contains c.as_slice.result.now k = subst (λ (x : List ℕ). Contains x k) (sym c.as_slice.ensures.value) h in
    let below = c.all_below.ensures all k in_slice in
    let same = c.slots.ensures in
    omega arith
