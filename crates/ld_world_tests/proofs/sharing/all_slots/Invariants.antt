use Rattle.std.proofs.Common.{ℕ, ◌<◌, Contains}
use Rattle.ld_world_tests.proofs.sharing.all_slots.Given as goal

abbrev pub invariant-loop-slot : goal.invariant-loop-slot
invariant-loop-slot l = (k : ℕ) → k < l.slot → Contains l.slots.items k
