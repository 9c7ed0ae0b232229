use Rattle.std.proofs.Common.{◌≡◌, take}
use Rattle.ld_settling.proofs.reads.reader.widened.Given as goal

abbrev pub invariant-loop-slot : goal.invariant-loop-slot
invariant-loop-slot l = (l.wide.items ≡ take l.slot-index l.slots) × (l.wide.room ≡ l.room)
