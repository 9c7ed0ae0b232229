use Rattle.std.proofs.Common.{◌≡◌, map}
use Rattle.ld_base.specs.Numbers.{numbers_below}
use Rattle.ld_generator.specs.GeneratedUnit.{scoring}
use Rattle.ld_generator.proofs.conditions.scorings.Given as goal

abbrev pub invariant-loop-number : goal.invariant-loop-number
invariant-loop-number l = l.conditions ≡ map scoring (numbers_below l.number)
