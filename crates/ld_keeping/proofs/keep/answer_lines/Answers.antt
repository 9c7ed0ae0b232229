use Rattle.std.proofs.Common.{◌≡◌, true, false, Ok, refl, sym, arith, ◌∙◌, append-nil, ap}
use Rattle.ld_keeping.proofs.TurnEnds.{KeptSo, ends, ends_unread, ends_too_long, ends_unwritten, ends_unkept, ends_full, goes_on, gets_fewer}
use Rattle.ld_keeping.proofs.Journals.{kept_none}
use Rattle.ld_keeping.proofs.Turning.{IsUnderWay-first}
use Rattle.ld_world.proofs.Counting.{IsCounted-first, IsCounted-next, worked_all}
use Rattle.ld_keeping.proofs.keep.answer_lines.Goals as goal

pub turns-init : goal.turns-init
turns-init g c =
    record {
      under_way = IsUnderWay-first _ _ _ _ _ c.requires.held c.requires.taken c.requires.going (kept_none g.D.Disk.model g.met.D.Disk.lawful c.args.disk.now c.args.journal.now c.requires.settled c.requires.at_rest c.requires.below, omega arith);
      counted = IsCounted-first _ _ _ _ _ _ c.requires.held c.requires.taken c.requires.going refl;
      at_rest = c.requires.at_rest;
      settled = c.requires.settled;
      below = c.requires.below;
      tells = refl;
      room = c.requires.room;
      limit = rw c.requires.taken (omega arith);
      source_counts = omega arith;
      sink_counts = omega arith;
      disk_counts = omega arith;
    }

pub returns-in-Err-ReadFault-clause-read : goal.returns-in-Err-ReadFault-clause-read
returns-in-Err-ReadFault-clause-read g c =
    λ _. ends_unread g.D.Disk.model g.met.D.Disk.lawful c.args.disk.now c.turns.disk c.answer_next.new.disk c.args.journal.now c.turns.journal c.answer_next.new.journal c.requires.at_rest c.turns.invariant.at_rest c.turns.invariant.tells c.turns.invariant.under_way _ _ _ _ (rw c.in-Err-ReadFault.field-0-is at c.in-Err-ReadFault.ensures.turn)

pub returns-in-Err-InputTooLong-clause-long : goal.returns-in-Err-InputTooLong-clause-long
returns-in-Err-InputTooLong-clause-long g c =
    λ _. ends_too_long g.D.Disk.model g.met.D.Disk.lawful c.args.disk.now c.turns.disk c.answer_next.new.disk c.args.journal.now c.turns.journal c.answer_next.new.journal c.requires.at_rest c.turns.invariant.at_rest c.turns.invariant.tells c.turns.invariant.under_way _ _ _ _ (rw c.in-Err-InputTooLong.field-0-is at c.in-Err-InputTooLong.ensures.turn)

pub returns-in-Err-DiskFault-clause-lost : goal.returns-in-Err-DiskFault-clause-lost
returns-in-Err-DiskFault-clause-lost g c =
    λ _. ends_unkept g.D.Disk.model g.met.D.Disk.lawful c.args.disk.now c.turns.disk c.answer_next.new.disk c.args.journal.now c.turns.journal c.answer_next.new.journal c.requires.at_rest c.turns.invariant.at_rest c.turns.invariant.tells c.turns.invariant.under_way _ _ _ _ (rw c.in-Err-DiskFault.field-0-is at c.in-Err-DiskFault.ensures.turn)

pub returns-in-Err-Full-clause-full : goal.returns-in-Err-Full-clause-full
returns-in-Err-Full-clause-full g c =
    λ _. ends_full g.D.Disk.model g.met.D.Disk.lawful c.args.disk.now c.turns.disk c.answer_next.new.disk c.args.journal.now c.turns.journal c.answer_next.new.journal c.requires.at_rest c.turns.invariant.at_rest c.turns.invariant.tells c.turns.invariant.under_way _ _ _ _ (rw c.in-Err-Full.field-0-is at c.in-Err-Full.ensures.turn)

pub returns-in-Ok-false-clause-done : goal.returns-in-Ok-false-clause-done
returns-in-Ok-false-clause-done g c =
    λ _. ends g.D.Disk.model g.met.D.Disk.lawful c.args.disk.now c.turns.disk c.answer_next.new.disk c.args.journal.now c.turns.journal c.answer_next.new.journal c.requires.at_rest c.turns.invariant.at_rest c.turns.invariant.tells c.turns.invariant.under_way _ _ _ _ (rw c.in-Ok-false.field-0-test at c.in-Ok-false.ensures.turn)

pub returns-in-Err-clause-cut : goal.returns-in-Err-clause-cut
returns-in-Err-clause-cut g c =
    let is : c.in-Ok-true.field-0 ≡ true = cc in
    let bytes : c.as_bytes.result.now ≡ c.answer_next.new.out.bytes = c.as_bytes.ensures.value ∙ c.as_str.ensures.bytes in
    λ _. ends_unwritten g.D.Disk.model g.met.D.Disk.lawful c.args.disk.now c.turns.disk c.answer_next.new.disk c.args.journal.now c.turns.journal c.answer_next.new.journal c.requires.at_rest c.turns.invariant.at_rest c.turns.invariant.tells c.turns.invariant.under_way _ _ _ _ _ (rw is at c.in-Ok-true.ensures.turn) (rw bytes at c.in-Err.ensures.err)

pub turns-preserved : goal.turns-preserved
turns-preserved g c =
    let is : c.in-Ok-true.field-0 ≡ true = cc in
    let turn = rw is at c.in-Ok-true.ensures.turn in
    let bytes : c.as_bytes.result.now ≡ c.answer_next.new.out.bytes = c.as_bytes.ensures.value ∙ c.as_str.ensures.bytes in
    record {
      under_way = goes_on g.D.Disk.model g.met.D.Disk.lawful c.args.disk.now c.turns.disk c.answer_next.new.disk c.args.journal.now c.turns.journal c.answer_next.new.journal c.requires.at_rest c.turns.invariant.at_rest c.turns.invariant.tells c.turns.invariant.under_way _ _ _ _ _ turn (rw bytes at c.in_default.ensures.ok);
      counted = IsCounted-next c.turns.invariant.counted c.in-Ok-true.ensures.work c.answer_next.new.out.bytes
          (ap Ok is) (sym (append-nil c.answer_next.new.out.bytes)) (rw bytes at c.in_default.ensures.ok);
      at_rest = c.in-Ok-true.ensures.at_rest;
      settled = c.in-Ok-true.ensures.settled;
      below = c.in-Ok-true.ensures.below;
      tells = c.answer_next.ensures.tells ∙ c.turns.invariant.tells;
      room = c.give_back_room.ensures;
      limit = turn.2.limit;
      source_counts = omega (arith, c.answer_next.ensures.source_counts, c.turns.invariant.source_counts);
      sink_counts = omega (arith, c.write_all.ensures.counts, c.turns.invariant.sink_counts);
      disk_counts = omega (arith, c.answer_next.ensures.disk_counts, c.turns.invariant.disk_counts);
    }

pub returns-in-Ok-false-clause-work : goal.returns-in-Ok-false-clause-work
returns-in-Ok-false-clause-work g c =
    let is : c.in-Ok-false.field-0 ≡ false = cc in
    λ _. worked_all c.turns.invariant.counted c.in-Ok-false.ensures.work (ap Ok is) (λ piece none. refl)
