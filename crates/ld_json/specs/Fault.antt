-- What a refusal says: which file, which place in it, and why.
use Rattle.std.specs.Prelude.{◌≡◌, ℕ, List, [], ◌∷◌, Option, Some, None}
use Rattle.ld_json.specs.declared.code.Code.{Code}
use Rattle.ld_json.specs.declared.file.FileNo.{FileNo}
use Rattle.ld_json.specs.declared.fault.Fault.{Fault}
use Rattle.ld_json.specs.declared.fault.ReadFault.{ReadFault}
use Rattle.ld_json.specs.declared.fault.ReadFault.TheVariants.{Refused, NoMemory}
use Rattle.ld_json.specs.Node.{Placed}

-- A file, a place in it and what is wrong there.
pub record Told : Type 0 where
  pub file : FileNo
  pub place : List ℕ
  pub code : Code

-- The fault of this code at the node.
abbrev pub node_fault : Placed → Code → Told
node_fault node code = record { file = node.file; place = node.place; code = code }

-- What the fault says.
abbrev pub told_by : Fault → Told
told_by fault = record { file = fault.file; place = fault.place.bytes; code = fault.code }

-- The error says just this. Want of memory says nothing.
abbrev pub Says : Told → ReadFault → Type 0
Says fault (Refused refused) = told_by refused ≡ fault
Says fault NoMemory = Unit {0}

-- The error says that the node has the fault of this code. Want of memory says nothing.
abbrev pub SaysFault : Placed → Code → ReadFault → Type 0
SaysFault node code error = Says (node_fault node code) error

-- The head of the list.
abbrev pub first_of : List Told → Option Told
first_of [] = None
first_of (fault ∷ _) = Some fault

-- The error says the first of these faults, so there is one. Want of memory says nothing.
abbrev pub SaysFirst : List Told → ReadFault → Type 0
SaysFirst faults (Refused refused) = first_of faults ≡ Some (told_by refused)
SaysFirst faults NoMemory = Unit {0}
