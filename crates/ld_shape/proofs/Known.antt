-- Where there is a fault, there is no value.
use Rattle.std.proofs.Common.{◌≡◌, List, [], ◌∷◌, Option, Some, None, refl}
use Rattle.ld_json.specs.Fault.{Told, first_of}
use Rattle.ld_shape.specs.Reading.{ValueOrFaults, Reading}

nothing : {A : Type 0} (x : Option A) (faults : List Told) (first : Told) → ValueOrFaults x faults → first_of faults ≡ Some first → x ≡ None
nothing None faults first are is = refl
nothing (Some x) [] first are is = cc
nothing (Some x) (_ ∷ _) first are is = absurd are

pub no_value : {A : Type 0} (reading : Reading A) (first : Told) → first_of reading.faults ≡ Some first → reading.value ≡ None
no_value reading first is = nothing reading.value reading.faults first reading.agree is
