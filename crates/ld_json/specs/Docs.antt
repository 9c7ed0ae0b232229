-- The documents of a unit, by their files.
use Rattle.std.specs.Prelude.{Option}
use Rattle.serde_json.specs.Data.{Data}
use Rattle.ld_json.specs.declared.docs.Docs.{Docs}
use Rattle.ld_json.specs.declared.file.FileNo.{FileNo}
use Rattle.ld_json.specs.declared.file.FileNo.TheVariants as file_no

-- The tree of the document of this file, if the file is there.
abbrev pub document_of : Docs → FileNo → Option Data
document_of docs file_no.Roles = docs.roles
document_of docs file_no.Properties = docs.properties
document_of docs file_no.Environments = docs.environments
document_of docs file_no.Activities = docs.activities
document_of docs file_no.Unit = docs.unit
document_of docs file_no.Conditions = docs.conditions
