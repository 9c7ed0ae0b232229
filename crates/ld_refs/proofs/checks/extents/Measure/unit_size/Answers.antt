use Rattle.std.proofs.Common.{◌<◌, length, slice_get, arith}
use Rattle.ld_walk.specs.PartView.{what_of}
use Rattle.ld_refs.specs.SizeView.{sizes_by}
use Rattle.ld_refs.proofs.SizeSums.{unit_size_more}
use Rattle.ld_types.proofs.Stops.{what_found}
use Rattle.ld_refs.proofs.checks.extents.Measure.unit_size.Goals as goal

pub loop-index-preserved : goal.loop-index-preserved
loop-index-preserved c =
    let measure = c.args.self.now in
    let parts = c.args.listing.now in
    let i = c.loop-index.index in
    let within : i < length parts = rw c.len-index-end.ensures at c.loop-index-test.true in
    let found = what_found (slice_get parts i) (what_of c.what.result) c.what.ensures in
    let size = rw (← found.2) at c.size_in.ensures in
    let more = unit_size_more measure.unit.now (sizes_by measure.sizes.now) measure.names.now parts i found.0 within found.1 in
    omega (arith, c.add-sum.ensures, size, more, c.loop-index.invariant.least, c.loop-index.invariant.rest)
