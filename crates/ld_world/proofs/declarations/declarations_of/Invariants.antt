use Rattle.std.proofs.Common.{◌≡◌, ◌++◌, ◌-◌, drop}
use Rattle.ld_globals.specs.Kept.{pairs_of}
use Rattle.ld_world.specs.Declaring.{pairs_by}
use Rattle.ld_world.proofs.declarations.declarations_of.Given as goal

abbrev pub invariant-loop-n : goal.invariant-loop-n
invariant-loop-n l = pairs_of l.list ++ pairs_by (drop l.n l.unit.properties) ≡ pairs_by l.unit.properties

abbrev pub decreases-loop-n : goal.decreases-loop-n
decreases-loop-n l = l.count - l.n
