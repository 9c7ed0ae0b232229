use Rattle.std.proofs.Common.{◌≡◌, ◌<◌, [], length, slice_get, take}
use Rattle.std.proofs.lemmas.Result.{err_from_is_err_and}
use Rattle.ld_json.specs.Fault.{SaysFirst}
use Rattle.ld_walk.specs.PartView.{what_of}
use Rattle.ld_refs.specs.Repeats.{repeated_at, repeated_faults, texts_in}
use Rattle.ld_refs.proofs.Seen.{texts_more}
use Rattle.ld_types.proofs.Stops.{part_found, stop_numbered_part, pass_numbered_part}
use Rattle.ld_refs.proofs.checks.repeats.check_repeats.Goals as goal

pub returns-in_err-note_part-clause-first : goal.returns-in_err-note_part-clause-first
returns-in_err-note_part-clause-first c =
    let p = err_from_is_err_and c.from_residual-in_err-note_part.result c.from_residual-in_err-note_part.ensures.1 in
    let texts = c.args.texts in
    let parts = c.args.listing.now in
    let i = c.loop-index.index in
    let within : i < length parts = rw c.len-index-end.ensures at c.loop-index-test.true in
    let found = part_found (slice_get parts i) c.spot-at.result (what_of c.what.result) c.spot-at.ensures c.what.ensures in
    let says : SaysFirst (repeated_at texts parts i found.0) c.in_err-note_part.field-0.0 = rw (found.2, found.3) (c.in_err-note_part.ensures.first (texts_in texts (take i parts)) c.loop-index.invariant.seen) in
    rw (p.1, p.2) (stop_numbered_part (repeated_at texts parts) parts i found.0 (repeated_faults texts parts) c.in_err-note_part.field-0.0 within found.1 c.loop-index.invariant.faults says)

pub loop-index-preserved : goal.loop-index-preserved
loop-index-preserved c =
    let texts = c.args.texts in
    let parts = c.args.listing.now in
    let i = c.loop-index.index in
    let within : i < length parts = rw c.len-index-end.ensures at c.loop-index-test.true in
    let found = part_found (slice_get parts i) c.spot-at.result (what_of c.what.result) c.spot-at.ensures c.what.ensures in
    let before = texts_in texts (take i parts) in
    let none : repeated_at texts parts i found.0 ≡ [] = rw (found.2, found.3) (c.in_ok-note_part.ensures.faultless before c.loop-index.invariant.seen) in
    record {
      seen = rw (texts_more texts parts i found.0 within found.1, found.3) (c.in_ok-note_part.ensures.kept before c.loop-index.invariant.seen);
      faults = pass_numbered_part (repeated_at texts parts) parts i found.0 (repeated_faults texts parts) within found.1 c.loop-index.invariant.faults none;
    }
