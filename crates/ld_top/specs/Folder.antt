-- What a folder holds: the unit that its files stand for, and all its faults, step by step.
-- (docs/FORMATS.md, "Order of faults")
use Rattle.std.specs.Prelude.{ℕ, List, [], ◌∷◌, ◌++◌, Bool, true, false, Option, Some, None, nat_lt, length, if◌then◌else◌}
use Rattle.std.specs.List.{flat_map}
use Rattle.serde_json.specs.Data.{Data}
use Rattle.ld_base.specs.Maybe.{◌>>=◌}
use Rattle.ld_base.specs.Outside.{Files}
use Rattle.ld_json.specs.declared.code.Code.{Code}
use Rattle.ld_json.specs.declared.code.Code.TheVariants.{Absent, TooBig, NotJson}
use Rattle.ld_json.specs.declared.docs.Docs.{Docs}
use Rattle.ld_json.specs.declared.file.FileNo.{FileNo}
use Rattle.ld_json.specs.declared.file.FileNo.TheVariants.{Roles, Properties, Environments, Activities, Unit as UnitFile, Conditions}
use Rattle.ld_json.specs.Fault.{Told}
use Rattle.ld_json.specs.Files.{file_name}
use Rattle.ld_formats.specs.Units.{unit}
use Rattle.ld_json.specs.Json.{json_of}
use Rattle.ld_model.specs.declared.unit.Unit.{Unit}
use Rattle.ld_refs.specs.Checks.{check_faults}

-- ---- the files

-- The six files in their order.
abbrev pub all_files : List FileNo
all_files = Roles ∷ Properties ∷ Environments ∷ Activities ∷ UnitFile ∷ Conditions ∷ []

-- The bytes of each of the six files, if it is there.
abbrev pub Held : Type 0
Held = FileNo → Option (List ℕ)

-- What the folder holds.
abbrev pub held_by_folder : Files → List ℕ → Held
held_by_folder files folder file = files folder (file_name file)

-- Each unit has roles, activities and a document of its own.
abbrev pub is_required : FileNo → Bool
is_required Roles = true
is_required Properties = false
is_required Environments = false
is_required Activities = true
is_required UnitFile = true
is_required Conditions = false

-- A fault of a whole file.
abbrev pub file_fault : Code → FileNo → Told
file_fault code file = record { file = file; place = []; code = code }

-- ---- they are there and not too big

-- A file that each unit has is not there, or a file has more than 4,194,304 bytes.
abbrev pub presence_fault : FileNo → Option (List ℕ) → List Told
presence_fault file None = if is_required file then file_fault Absent file ∷ [] else []
presence_fault file (Some bytes) = if nat_lt 4194304 (length bytes) then file_fault TooBig file ∷ [] else []

-- Such faults of the six files, in their order.
unfoldable pub presence_faults : Held → List Told
presence_faults held = flat_map (λ file. presence_fault file (held file)) all_files

-- ---- they are JSON

-- The file is not JSON, where no JSON value was read from its bytes.
abbrev pub tree_fault : FileNo → Option Data → List Told
tree_fault file None = file_fault NotJson file ∷ []
tree_fault file (Some _) = []

-- The file is there, and is not JSON.
abbrev pub json_fault : FileNo → Option (List ℕ) → List Told
json_fault file None = []
json_fault file (Some bytes) = tree_fault file (json_of bytes)

-- Such faults of the six files, in their order.
unfoldable pub json_faults : Held → List Told
json_faults held = flat_map (λ file. json_fault file (held file)) all_files

-- The documents in the files.
unfoldable pub docs_in : Held → Docs
docs_in held = record {
  roles = held Roles >>= json_of;
  properties = held Properties >>= json_of;
  environments = held Environments >>= json_of;
  activities = held Activities >>= json_of;
  unit = held UnitFile >>= json_of;
  conditions = held Conditions >>= json_of;
}

-- ---- their shapes, and what they say

-- The faults of the shapes of the documents, in their order.
unfoldable pub shape_faults : Docs → List Told
shape_faults docs = (unit.reading docs).faults

-- The unit for which the documents stand, whether or not a check finds a fault in it.
unfoldable pub unit_of : Docs → Option Unit
unit_of docs = (unit.reading docs).value

-- What the checks find in the unit, if there is one.
abbrev pub faults_of_unit : Option Unit → List Told
faults_of_unit None = []
faults_of_unit (Some unit) = check_faults unit

-- The faults of the documents' shapes, and then what the checks find in the unit for which they stand.
unfoldable pub document_faults : Docs → List Told
document_faults docs = shape_faults docs ++ faults_of_unit (unit_of docs)

-- ---- the whole

-- All faults of the folder; the first of them is told.
unfoldable pub folder_faults : Files → List ℕ → List Told
folder_faults files folder =
    presence_faults (held_by_folder files folder)
    ++ (json_faults (held_by_folder files folder)
    ++ document_faults (docs_in (held_by_folder files folder)))

-- The unit for which the documents of the folder stand, if they stand for one.
unfoldable pub unit_of_folder : Files → List ℕ → Option Unit
unit_of_folder files folder = unit_of (docs_in (held_by_folder files folder))
