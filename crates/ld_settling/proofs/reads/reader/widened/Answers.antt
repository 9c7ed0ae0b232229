use Rattle.std.proofs.Common.{◌∙◌}
use Rattle.ld_settling.proofs.SlotSets.{one_more}
use Rattle.ld_settling.proofs.reads.reader.widened.Goals as goal

pub loop-slot-preserved : goal.loop-slot-preserved
loop-slot-preserved c =
    let before = c.loop-slot.invariant in (
      one_more c.as_slice-slots.result.now c.loop-slot.wide.items c.put.new.self.items c.loop-slot.slot-index
          (rw (c.as_slice-slots.ensures.value) c.as_slice-slots.ensures.once) c.loop-slot-test.true before.0 c.put.ensures.added,
      c.put.ensures.room ∙ before.1,
    )
