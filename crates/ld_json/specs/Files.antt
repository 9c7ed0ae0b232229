-- The six documents of a unit.
use Rattle.std.specs.Prelude.{ℕ, List, codes}
use Rattle.ld_json.specs.declared.file.FileNo.{FileNo}
use Rattle.ld_json.specs.declared.file.FileNo.TheVariants.{Roles, Properties, Environments, Activities, Unit, Conditions}

-- The name of the document's file.
abbrev pub file_name : FileNo → List ℕ
file_name Roles = codes "roles.json"
file_name Properties = codes "properties.json"
file_name Environments = codes "environments.json"
file_name Activities = codes "activities.json"
file_name Unit = codes "unit.json"
file_name Conditions = codes "conditions.json"

-- The place of the document in the order of the six, counted from 0.
abbrev pub file_index : FileNo → ℕ
file_index Roles = 0
file_index Properties = 1
file_index Environments = 2
file_index Activities = 3
file_index Unit = 4
file_index Conditions = 5
