use Rattle.std.proofs.Common.{◌≡◌, map}
use Rattle.ld_base.specs.Numbers.{numbers_below}
use Rattle.ld_generator.specs.GeneratedUnit.{numbered_activity}
use Rattle.ld_generator.proofs.unit.activities.Given as goal

abbrev pub invariant-loop-number : goal.invariant-loop-number
invariant-loop-number l = l.activities ≡ map numbered_activity (numbers_below l.number)
