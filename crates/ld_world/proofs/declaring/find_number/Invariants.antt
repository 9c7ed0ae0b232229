use Rattle.std.proofs.Common.{◌≡◌, ◌-◌, drop, length}
use Rattle.ld_world.specs.Declaring.{uri_property_number}
use Rattle.ld_world.proofs.declaring.find_number.Given as goal

abbrev pub invariant-loop-n : goal.invariant-loop-n
invariant-loop-n l = uri_property_number l.n l.left (drop l.n l.properties) ≡ uri_property_number 0 l.fn.place l.properties

abbrev pub decreases-loop-n : goal.decreases-loop-n
decreases-loop-n l = length l.properties - l.n
