use Rattle.std.proofs.Common.{◌-◌, length}
use Rattle.ld_globals.specs.Recent.{Grows}
use Rattle.ld_globals.proofs.recency.Recency.grow_to.Given as goal

abbrev pub invariant-loop-self : goal.invariant-loop-self
invariant-loop-self l = Grows l.fn.self l.self

abbrev pub decreases-loop-self : goal.decreases-loop-self
decreases-loop-self l = l.len - length l.self
