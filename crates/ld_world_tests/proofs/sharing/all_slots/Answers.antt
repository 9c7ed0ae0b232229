use Rattle.ld_world_tests.proofs.Given.{more_slots}
use Rattle.ld_world_tests.proofs.sharing.all_slots.Goals as goal

pub loop-slot-preserved : goal.loop-slot-preserved
loop-slot-preserved c k below =
    rw c.in_ok-push.ensures.items (more_slots c.loop-slot.slots.items c.loop-slot.slot c.loop-slot.invariant k below)
