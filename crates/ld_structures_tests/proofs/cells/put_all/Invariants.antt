use Rattle.std.proofs.Common.{◌≡◌}
use Rattle.ld_structures_tests.proofs.cells.put_all.Given as goal

abbrev pub invariant-loop-slot : goal.invariant-loop-slot
invariant-loop-slot g l = l.cells.kept ≡ l.fn.cells.kept
