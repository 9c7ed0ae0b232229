use Rattle.std.proofs.Common.{◌∙◌, ◌+◌, ◌-◌, ◌<◌, ◌^◌, arith, sym, length}
use Rattle.std.proofs.lemmas.Result.{err_from_is_err_and}
use Rattle.ld_lines.proofs.Cuts.{CutsOff-progress}
use Rattle.ld_lines.proofs.Pieces.{ended_lines_of-none}
use Rattle.ld_lines.proofs.Handing.{Passed-more, same_ended, still_unasked, HandsOut-whole, HandsOut-over, HandsOut-none, HandsOut-stop}
use Rattle.ld_lines.proofs.reader.Reader.advance.Goals as goal

pub returns-in_err-next_piece-clause-hands_out : goal.returns-in_err-next_piece-clause-hands_out
returns-in_err-next_piece-clause-hands_out g c =
    let p = err_from_is_err_and c.from_residual.result c.from_residual.ensures.1 in
    let stop = c.in_err-next_piece in
    rw (p.1, p.2) (HandsOut-stop c.next_piece.new.self.line stop.field-0.0 c.loop-self.invariant.0 stop.ensures.cuts stop.ensures.stops)

pub returns-then-not-are_blank-clause-hands_out : goal.returns-then-not-are_blank-clause-hands_out
returns-then-not-are_blank-clause-hands_out g c =
    HandsOut-whole c.loop-self.invariant.0 (rw c.in-Whole.is at c.in_ok-next_piece.ensures.cuts)
    (rw c.line.ensures at (sym c.if-not-are_blank.ensures)) c.next_piece.ensures.limit

pub loop-self-smaller : goal.loop-self-smaller
loop-self-smaller g c =
    let old = c.loop-self.self.reading in
    let new = c.next_piece.new.self.reading in
    let cut = rw c.in-Whole.is at c.in_ok-next_piece.ensures.cuts in
    let less : 2 ^ 40 - new.taken + length new.held < 2 ^ 40 - old.taken + length old.held =
    omega (arith, CutsOff-progress cut, cut.takes.counted, c.next_piece.ensures.limit) in
    less

pub loop-self-preserved : goal.loop-self-preserved
loop-self-preserved g c =
    let passed = c.loop-self.invariant.0 in
    let next = c.next_piece.ensures in
    let cut = rw c.in-Whole.is at c.in_ok-next_piece.ensures.cuts in (
      Passed-more passed cut (rw c.line.ensures at (sym c.if-not-are_blank.ensures)),
      omega (arith, c.loop-self.invariant.1, next.counts),
      λ ended. next.after_end (passed.takes.stays_ended ended) ∙ c.loop-self.invariant.2 ended,
      λ full. next.after_limit (omega (arith, passed.takes.counted, cut.takes.counted, next.limit)) ∙ c.loop-self.invariant.3 full,
      λ some.
          let was = c.loop-self.invariant.4 some in
          let asks = next.unasked (λ clear. was.1 (ended_lines_of-none c.loop-self.self.reading.held clear)) in
          let same = same_ended cut (rw c.line.ensures at (sym c.if-not-are_blank.ensures)) asks.1 asks.2 in
          (asks.0 ∙ was.0, λ none. was.1 (same ∙ none)),
    )

pub returns-in-Over-clause-hands_out : goal.returns-in-Over-clause-hands_out
returns-in-Over-clause-hands_out g c =
    HandsOut-over c.loop-self.invariant.0 (rw c.in-Over.is at c.in_ok-next_piece.ensures.cuts) c.next_piece.ensures.limit

pub returns-in-End-clause-hands_out : goal.returns-in-End-clause-hands_out
returns-in-End-clause-hands_out g c =
    HandsOut-none c.loop-self.invariant.0 (rw c.in-End.is at c.in_ok-next_piece.ensures.cuts) c.next_piece.ensures.limit

pub returns-in_err-next_piece-clause-unasked : goal.returns-in_err-next_piece-clause-unasked
returns-in_err-next_piece-clause-unasked g c some =
    still_unasked c.loop-self.self.reading.held (c.loop-self.invariant.4 some) (λ fed. (c.next_piece.ensures.unasked fed).0)

pub returns-then-not-are_blank-clause-unasked : goal.returns-then-not-are_blank-clause-unasked
returns-then-not-are_blank-clause-unasked g c some =
    still_unasked c.loop-self.self.reading.held (c.loop-self.invariant.4 some) (λ fed. (c.next_piece.ensures.unasked fed).0)

pub returns-in-Over-clause-unasked : goal.returns-in-Over-clause-unasked
returns-in-Over-clause-unasked g c some =
    still_unasked c.loop-self.self.reading.held (c.loop-self.invariant.4 some) (λ fed. (c.next_piece.ensures.unasked fed).0)

pub returns-in-End-clause-unasked : goal.returns-in-End-clause-unasked
returns-in-End-clause-unasked g c some =
    still_unasked c.loop-self.self.reading.held (c.loop-self.invariant.4 some) (λ fed. (c.next_piece.ensures.unasked fed).0)
