use Rattle.std.proofs.Common.{take}
use Rattle.std.proofs.lemmas.Result.{err_from_is_err_and}
use Rattle.ld_model.specs.Counting.{each_numbered}
use Rattle.ld_refs.specs.Repeats.{repeated_target}
use Rattle.ld_refs.proofs.Seen.{one_more, too_few}
use Rattle.ld_types.proofs.Stops.{stop_numbered, pass_numbered}
use Rattle.ld_refs.proofs.checks.repeats.check_list.Goals as goal

pub returns-in_err-note-clause-first : goal.returns-in_err-note-clause-first
returns-in_err-note-clause-first c =
    let p = err_from_is_err_and c.from_residual.result c.from_residual.ensures.1 in
    let ids = c.args.ids.now in
    let i = c.loop-i.i in
    let f = repeated_target c.args.at.now ids in
    let says = rw (c.item.ensures, c.as_str.ensures.bytes, c.index-ids-i.is) at (c.in_err-note.ensures.first (take i ids) c.loop-i.invariant.seen) in
    rw (p.1, p.2) (stop_numbered f ids i c.index-ids-i.result (each_numbered f ids) c.in_err-note.field-0.0 c.loop-i-test.true c.loop-i.invariant.faults says)

pub loop-i-preserved : goal.loop-i-preserved
loop-i-preserved c =
    let ids = c.args.ids.now in
    let i = c.loop-i.i in
    let f = repeated_target c.args.at.now ids in
    let none = rw (c.item.ensures, c.as_str.ensures.bytes, c.index-ids-i.is) at (c.in_ok-note.ensures.faultless (take i ids) c.loop-i.invariant.seen) in
    let kept = rw (c.as_str.ensures.bytes, c.index-ids-i.is) at (c.in_ok-note.ensures.kept (take i ids) c.loop-i.invariant.seen) in
    record {
      seen = rw (one_more ids i c.index-ids-i.result c.loop-i-test.true) kept;
      faults = pass_numbered f ids i c.index-ids-i.result (each_numbered f ids) c.loop-i-test.true c.loop-i.invariant.faults none;
    }

pub returns-then-ids-lt2-clause-faultless : goal.returns-then-ids-lt2-clause-faultless
returns-then-ids-lt2-clause-faultless c = too_few c.args.at.now c.args.ids.now c.if-ids-lt2.true
