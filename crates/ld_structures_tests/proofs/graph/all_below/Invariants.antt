use Rattle.std.proofs.Common.{ℕ, ◌<◌, get_or}
use Rattle.ld_structures_tests.proofs.graph.all_below.Given as goal

abbrev pub invariant-loop-slot : goal.invariant-loop-slot
invariant-loop-slot l = (j : ℕ) → j < l.slot-index → get_or l.slots j 0 < l.bound
