use Rattle.std.proofs.Common.{length}
use Rattle.ld_graph.proofs.levels.+clear_at.Given as goal

abbrev pub decreases-clear_at : goal.decreases-clear_at
decreases-clear_at l = length l.levels.now
