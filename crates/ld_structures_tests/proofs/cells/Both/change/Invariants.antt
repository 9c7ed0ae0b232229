use Rattle.std.proofs.Common.{◌≡◌}
use Rattle.ld_structures_tests.proofs.cells.Both.change.Given as goal

abbrev pub invariant-loop : goal.invariant-loop
invariant-loop g l = l.self.cells.kept ≡ l.fn.self.cells.kept
