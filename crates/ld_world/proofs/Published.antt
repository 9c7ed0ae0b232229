-- The faults of a unit beside others.
use Rattle.std.proofs.Common.{◌≡◌, List, [], ◌∷◌, Some, is_some, true, false, refl, sym, ap, ◌∙◌}
use Rattle.std.specs.Str.{bytes_eq}
use Rattle.ld_json.specs.Fault.{Says, SaysFirst, Told, first_of}
use Rattle.ld_json.specs.declared.fault.ReadFault.{ReadFault}
use Rattle.ld_json.specs.declared.fault.ReadFault.TheVariants.{Refused, NoMemory}
use Rattle.ld_model.specs.declared.unit.Unit.{Unit}
use Rattle.ld_world.specs.Published.{repeated_unit, repeats_unit}
use Rattle.ld_world.specs.World.{unit_named}
use Rattle.ld_world.proofs.Named.{any_found}

-- Where a unit of the identifier is found, that is the first fault.
pub says_repeated : (units : List Unit) (unit : Unit) (error : ReadFault) → is_some (unit_named units unit.identifier) ≡ true
    → Says repeated_unit error → SaysFirst (repeats_unit units unit) error
says_repeated units unit (Refused fault) there says =
    rw (any_found (λ other. bytes_eq other.identifier unit.identifier) units, there) (ap Some (sym says))
says_repeated units unit NoMemory there says = tt

-- Where none is found, there is no fault.
pub none_repeated : (units : List Unit) (unit : Unit) → is_some (unit_named units unit.identifier) ≡ false → repeats_unit units unit ≡ []
none_repeated units unit none = rw (any_found (λ other. bytes_eq other.identifier unit.identifier) units, none) refl

-- Where there is one fault, the error that says it says the first.
pub says_one : (fault : Told) (faults : List Told) (error : ReadFault) → faults ≡ fault ∷ [] → Says fault error → SaysFirst faults error
says_one fault faults (Refused refused) one says = ap first_of one ∙ ap Some (sym says)
says_one fault faults NoMemory one says = tt
