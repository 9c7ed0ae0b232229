use Rattle.std.proofs.lemmas.Result.{err_from_is_err_and}
use Rattle.ld_walk.specs.PartView.{what_of}
use Rattle.ld_types.proofs.Stops.{part_with, stop_parts, pass_parts}
use Rattle.ld_refs.specs.Seen.{part_seen}
use Rattle.std.proofs.Common.{flat_map, slice_get}
use Rattle.ld_refs.proofs.checks.each.check_each.Goals as goal

pub returns-in_err-check-clause-first : goal.returns-in_err-check-clause-first
returns-in_err-check-clause-first g c =
    let p = err_from_is_err_and c.from_residual.result c.from_residual.ensures.1 in
    let faults = g.C.PartCheck.faults c.args.check.now in
    let parts = c.args.listing.now in
    let i = c.loop-index.index in
    let here = part_with (slice_get parts i) c.spot-at.result c.level.result (what_of c.what.result) c.spot-at.ensures c.level.ensures c.what.ensures in
    rw (p.1, p.2) (stop_parts faults parts i (part_seen c.spot-at.result c.level.result c.what.result) (flat_map faults parts) c.in_err-check.field-0.0 (rw c.len-index-end.ensures at c.loop-index-test.true) here c.loop-index.invariant c.in_err-check.ensures.first)

pub loop-index-preserved : goal.loop-index-preserved
loop-index-preserved g c =
    let faults = g.C.PartCheck.faults c.args.check.now in
    let parts = c.args.listing.now in
    let i = c.loop-index.index in
    let here = part_with (slice_get parts i) c.spot-at.result c.level.result (what_of c.what.result) c.spot-at.ensures c.level.ensures c.what.ensures in
    pass_parts faults parts i (part_seen c.spot-at.result c.level.result c.what.result) (flat_map faults parts) (rw c.len-index-end.ensures at c.loop-index-test.true) here c.loop-index.invariant c.in_ok-check.ensures.faultless
