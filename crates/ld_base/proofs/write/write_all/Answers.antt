use Rattle.std.proofs.lemmas.Result.{err_from_is_err_and}
use Rattle.ld_base.proofs.Pieces.{then_piece-nil, AddsPrefix-take}
use Rattle.ld_base.proofs.write.write_all.Goals as goal

pub returns-in_err-count-clause-err : goal.returns-in_err-count-clause-err
returns-in_err-count-clause-err g c =
    let failed = err_from_is_err_and c.from_residual.result c.from_residual.ensures.1 in
    rw (failed.1, c.in_err-count.ensures.err, c.loop-done.invariant.bytes) (AddsPrefix-take _ _ c.loop-done.done)

pub returns-then-count-eq0-clause-err : goal.returns-then-count-eq0-clause-err
returns-then-count-eq0-clause-err g c =
    rw (c.in_ok-count.ensures.bytes, c.if-count-eq0.true, then_piece-nil, c.loop-done.invariant.bytes)
    (AddsPrefix-take _ _ c.loop-done.done)
