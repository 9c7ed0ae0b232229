use Rattle.std.proofs.Common.{◌≡◌, ◌↔◌, map, length}
use Rattle.ld_value.specs.Datum.{datum_of}
use Rattle.ld_globals.proofs.declared.same_values.Given as goal

abbrev pub invariant-loop-a : goal.invariant-loop-a
invariant-loop-a l = (map datum_of l.first ≡ map datum_of l.second) ↔ (map datum_of l.left ≡ map datum_of l.right)

abbrev pub decreases-loop-a : goal.decreases-loop-a
decreases-loop-a l = length l.left
