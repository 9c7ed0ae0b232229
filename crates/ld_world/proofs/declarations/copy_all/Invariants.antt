use Rattle.std.proofs.Common.{◌≡◌, map, take}
use Rattle.ld_value.specs.Datum.{datum_of}
use Rattle.ld_world.proofs.declarations.copy_all.Given as goal

abbrev pub invariant-loop-value : goal.invariant-loop-value
invariant-loop-value l = map datum_of l.copies ≡ map datum_of (take l.value-index l.values)
