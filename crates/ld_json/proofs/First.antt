-- The first fault of two lists.
use Rattle.std.proofs.Common.{◌≡◌, List, [], ◌∷◌, ◌++◌, Option, Some, None, refl}
use Rattle.ld_json.specs.declared.fault.ReadFault.{ReadFault}
use Rattle.ld_json.specs.declared.fault.ReadFault.TheVariants.{Refused, NoMemory}
use Rattle.ld_json.specs.Fault.{Told, first_of, SaysFirst}

abbrev pub or_first : Option Told → Option Told → Option Told
or_first None more = more
or_first (Some fault) more = Some fault

pub first_of_both : (faults more : List Told) → first_of (faults ++ more) ≡ or_first (first_of faults) (first_of more)
first_of_both [] more = refl
first_of_both (fault ∷ rest) more = refl

-- The first fault of a list is the first of a longer one.
pub says_more : (faults more : List Told) (error : ReadFault) → SaysFirst faults error → SaysFirst (faults ++ more) error
says_more [] more (Refused fault) says = cc
says_more (first ∷ rest) more (Refused fault) says = says
says_more faults more NoMemory says = tt

-- Where the part before has no fault, the first fault of the rest is the first of all.
pub says_later : (before rest : List Told) (error : ReadFault) → before ≡ [] → SaysFirst rest error → SaysFirst (before ++ rest) error
says_later before rest error faultless says = rw faultless says
