use Rattle.std.proofs.Common.{◌≡◌, ◌<◌, ◌∙◌, true, false, length, slice_get, arith}
use Rattle.std.proofs.lemmas.Grind.{common_steps}
use Rattle.ld_walk.specs.PartView.{what_of}
use Rattle.ld_refs.specs.Bounds.{declares, is_counted}
use Rattle.ld_refs.proofs.Beyond.{beyond_skips, beyond_counts, beyond_stops}
use Rattle.ld_types.proofs.Stops.{what_found, part_found}
use Rattle.ld_refs.proofs.checks.limits.check_limit.Goals as goal

pub loop-index-preserved-then-not-counts : goal.loop-index-preserved-then-not-counts
loop-index-preserved-then-not-counts c =
    let test = is_counted c.args.counted in
    let parts = c.args.listing.now in
    let i = c.loop-index.index in
    let within : i < length parts = rw c.len-index-end.ensures at c.loop-index-test.true in
    let found = what_found (slice_get parts i) (what_of c.what.result) c.what.ensures in
    let other : declares test found.0.what ≡ false = rw found.2 (grind (arith, common_steps, c.counts.ensures, c.if-not-counts.true)) in
    beyond_skips c.loop-index.left test parts i found.0 within found.1 other ∙ c.loop-index.invariant

pub returns-then-left-eq0-clause-first : goal.returns-then-left-eq0-clause-first
returns-then-left-eq0-clause-first c =
    let test = is_counted c.args.counted in
    let parts = c.args.listing.now in
    let i = c.loop-index.index in
    let within : i < length parts = rw c.len-index-end.ensures at c.loop-index-test.true in
    let found = part_found (slice_get parts i) c.spot.result (what_of c.what.result) c.spot.ensures c.what.ensures in
    let counted : declares test found.0.what ≡ true = rw found.3 (grind (arith, common_steps, c.counts.ensures, c.if-not-counts.false)) in
    let here = rw c.if-left-eq0.true at c.loop-index.invariant in
    rw (← here) (beyond_stops test parts i found.0 c.fault.result within found.1 counted (rw found.2 c.fault.ensures))

pub loop-index-preserved : goal.loop-index-preserved
loop-index-preserved c =
    let test = is_counted c.args.counted in
    let parts = c.args.listing.now in
    let i = c.loop-index.index in
    let within : i < length parts = rw c.len-index-end.ensures at c.loop-index-test.true in
    let found = what_found (slice_get parts i) (what_of c.what.result) c.what.ensures in
    let counted : declares test found.0.what ≡ true = rw found.2 (grind (arith, common_steps, c.counts.ensures, c.if-not-counts.false)) in
    beyond_counts c.loop-index.left test parts i found.0 within found.1 c.if-left-eq0.false counted ∙ c.loop-index.invariant
