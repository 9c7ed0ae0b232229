use Rattle.std.proofs.Common.{length}
use Rattle.ld_graph.proofs.levels.+grow.Given as goal

abbrev pub decreases-grow : goal.decreases-grow
decreases-grow l = length l.levels.now
