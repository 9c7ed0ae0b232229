use Rattle.std.proofs.Common.{arith, ◌≡◌, Ok, ap, true, false, inl, inr}
use Rattle.std.proofs.lemmas.Bool.{cases_Bool}
use Rattle.ld_top.proofs.HeldLines.{none_at_all}
use Rattle.ld_top.proofs.Replaying.{IsUnderWay-first, IsUnderWay-next, ended_well, stopped_by_fault, stopped_by_length, stopped_by_sink}
use Rattle.ld_world.proofs.Counting.{IsCounted-first, IsCounted-next, worked_all}
use Rattle.ld_top.proofs.replay.answer_lines.Goals as goal

pub turns-init : goal.turns-init
turns-init g c = record {
  under_way = IsUnderWay-first _ _ _ _ _ c.requires.held c.requires.taken c.requires.going c.requires.none;
  counted = IsCounted-first _ _ _ _ _ _ c.requires.held c.requires.taken c.requires.going c.requires.none;
  waits = λ _. c.requires.none;
  few = rw c.requires.none (omega arith);
  room = c.requires.room;
  limit = rw c.requires.taken (omega arith);
  source_counts = omega arith;
  sink_counts = omega arith;
}

pub returns-in-Err-ReadFault-clause-read : goal.returns-in-Err-ReadFault-clause-read
returns-in-Err-ReadFault-clause-read g c =
    let turn = c.in-Err-ReadFault.ensures.turn in
    λ _. stopped_by_fault _ _ c.turns.invariant.under_way c.turns.invariant.waits turn.0 turn.1 (rw c.in-Err-ReadFault.field-0-is at turn.2)

pub returns-in-Err-InputTooLong-clause-long : goal.returns-in-Err-InputTooLong-clause-long
returns-in-Err-InputTooLong-clause-long g c =
    let turn = c.in-Err-InputTooLong.ensures.turn in
    λ _. stopped_by_length _ _ c.turns.invariant.under_way c.turns.invariant.waits turn.0 turn.1 (rw c.in-Err-InputTooLong.field-0-is at turn.2)

pub returns-in-Ok-false-clause-done : goal.returns-in-Ok-false-clause-done
returns-in-Ok-false-clause-done g c =
    let turn = c.in-Ok-false.ensures.turn in
    λ _. ended_well _ _ c.turns.invariant.under_way c.turns.invariant.waits turn.0 turn.1 (rw c.in-Ok-false.field-0-test at turn.2)

pub returns-in-Err-clause-cut : goal.returns-in-Err-clause-cut
returns-in-Err-clause-cut g c =
    let turn = c.in-Ok-true.ensures.turn in
    let is : c.in-Ok-true.field-0 ≡ true = cc in
    λ _. stopped_by_sink _ _ c.turns.invariant.under_way turn.0 turn.1 (rw is at turn.2) c.in-Err.ensures.err

pub turns-preserved : goal.turns-preserved
turns-preserved g c =
    let turn = c.in-Ok-true.ensures.turn in
    let is : c.in-Ok-true.field-0 ≡ true = cc in
    record {
      under_way = IsUnderWay-next _ c.turns.invariant.under_way turn.0 turn.1 (rw is at turn.2) c.in_default.ensures.ok;
      counted = IsCounted-next c.turns.invariant.counted c.in-Ok-true.ensures.work c.in_default.ensures.ok.0 (ap Ok is) c.in_default.ensures.ok.1 c.in_default.ensures.ok.2;
      waits = λ none. elim (cases_Bool c.holds_line.result) [
        | inl held ↦ absurd (c.holds_line.ensures.yes held none)
        | inr not_held ↦ c.in_default.ensures.none not_held
      ];
      few = c.send.ensures.few;
      room = c.give_back_room.ensures;
      limit = turn.1.limit;
      source_counts = omega (arith, c.answer_next.ensures.counts, c.turns.invariant.source_counts);
      sink_counts = omega (arith, c.send.ensures.counts, c.turns.invariant.sink_counts);
    }

-- The lines that are held when the source tells its end are none, so nothing waits.
pub returns-in-Ok-false-clause-work : goal.returns-in-Ok-false-clause-work
returns-in-Ok-false-clause-work g c =
    let is : c.in-Ok-false.field-0 ≡ false = cc in
    λ _. worked_all c.turns.invariant.counted c.in-Ok-false.ensures.work (ap Ok is)
    (λ piece none. c.turns.invariant.waits (none_at_all c.turns.lines.held piece none))
