use Rattle.std.proofs.Common.{◌≡◌, map}
use Rattle.ld_base.specs.Numbers.{numbers_below}
use Rattle.ld_generator.specs.GeneratedUnit.{activity_name}
use Rattle.ld_generator.proofs.unit.activity_ids.Given as goal

abbrev pub invariant-loop-number : goal.invariant-loop-number
invariant-loop-number l = l.references ≡ map activity_name (numbers_below l.number)
