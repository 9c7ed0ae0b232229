-- What is printed of documents. (docs/FORMATS.md, "Canonical documents")
use Rattle.std.specs.Prelude.{◌≡◌, ℕ, List, [], ◌++◌, Option, Some, None, false, codes}
use Rattle.serde_json.specs.Data.{Data}
use Rattle.serde_json.specs.Written.{compact_text}
use Rattle.ld_json.specs.Docs.{document_of}
use Rattle.ld_json.specs.Files.{file_name}
use Rattle.ld_json.specs.declared.docs.Docs.{Docs}
use Rattle.ld_json.specs.declared.file.FileNo.{FileNo}
use Rattle.ld_json.specs.declared.file.FileNo.TheVariants.{Roles, Properties, Environments, Activities, Unit, Conditions}
use Rattle.ld_prints.specs.Whole.{maybe_has_float}

-- A line with the name of the file and a line with its document; nothing where the file is left out.
abbrev pub file_text : List ℕ → Option Data → List ℕ
file_text name None = []
file_text name (Some tree) = codes "# " ++ name ++ codes "\n" ++ compact_text tree ++ codes "\n"

-- The same of a file of the documents.
abbrev pub text_at : Docs → FileNo → List ℕ
text_at docs file = file_text (file_name file) (document_of docs file)

-- The documents, in the order of the files.
abbrev pub docs_text : Docs → List ℕ
docs_text docs =
    text_at docs Roles ++ text_at docs Properties ++ text_at docs Environments
    ++ text_at docs Activities ++ text_at docs Unit ++ text_at docs Conditions

-- No document has a number with a point.
abbrev pub AreWhole : Docs → Type 0
AreWhole docs = (file : FileNo) → maybe_has_float (document_of docs file) ≡ false
