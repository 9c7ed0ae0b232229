use Rattle.std.proofs.Common.{◌≡◌, ◌<◌, ◌∙◌, true, false, length, slice_get, sym, arith}
use Rattle.ld_walk.specs.PartView.{what_of}
use Rattle.ld_refs.specs.Bounds.{is_leaf}
use Rattle.ld_refs.proofs.Beyond.{leaf_more, no_leaf_more}
use Rattle.ld_types.proofs.Stops.{what_found}
use Rattle.ld_refs.proofs.checks.limits.count_leaves.Goals as goal
use Rattle.ld_refs.proofs.checks.limits.count_leaves.Goals.{then-is_leaf, else-is_leaf}

pub loop-index-preserved : goal.loop-index-preserved
loop-index-preserved c =
    let only = c.args.of_members_only in
    let parts = c.args.listing.now in
    let i = c.loop-index.index in
    let within : i < length parts = rw c.len-index-end.ensures at c.loop-index-test.true in
    let found = what_found (slice_get parts i) (what_of c.what.result) c.what.ensures in
    elim c.if-is_leaf.branch [
      | then-is_leaf w ↦ (let is : is_leaf only found.0.what ≡ true = rw found.2 (sym c.is_leaf.ensures ∙ w.if-is_leaf.true) in
          omega (arith, w.count-is, c.loop-index.invariant.least, c.loop-index.invariant.rest, leaf_more only parts i found.0 within found.1 is))
      | else-is_leaf w ↦ (let is : is_leaf only found.0.what ≡ false = rw found.2 (sym c.is_leaf.ensures ∙ w.if-is_leaf.false) in
          omega (arith, w.count-is, c.loop-index.invariant.least, c.loop-index.invariant.rest, no_leaf_more only parts i found.0 within found.1 is))
    ]
