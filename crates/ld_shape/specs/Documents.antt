-- The documents of a unit.
use Rattle.std.specs.Prelude.{◌≡◌, [], Option, Some, None, true}
use Rattle.serde_json.specs.Data.{Data}
use Rattle.ld_json.specs.Fault.{Told}
use Rattle.ld_json.specs.Docs.{document_of}
use Rattle.ld_json.specs.Node.{Placed}
use Rattle.ld_json.specs.declared.code.Code.TheVariants.{Absent}
use Rattle.ld_json.specs.declared.docs.Docs.{Docs}
use Rattle.ld_json.specs.declared.file.FileNo.{FileNo}
use Rattle.ld_shape.specs.Keeping.{part_keeps}
use Rattle.ld_shape.specs.Reading.{Reading, found, faulty, part_or}
use Rattle.ld_shape.specs.Shapes.{Described, Shape}

-- What is read from the documents of a unit.
abbrev pub UnitShape : Type 0 → Type 0
UnitShape A = Described Docs A

-- The node of a whole document.
abbrev pub root_node : FileNo → Data → Placed
root_node file tree = record { file = file; place = []; tree = tree }

-- A document that is not there.
abbrev pub absent_file : FileNo → Told
absent_file file = record { file = file; place = []; code = Absent }

-- What is read from the document of this file, which has to be there.
abbrev pub required_reading : {A : Type 0} → FileNo → Shape A → Docs → Reading A
required_reading file shape docs = part_or (faulty (absent_file file))
    (λ tree. shape.reading (root_node file tree)) (document_of docs file)

-- What is read from the document of this file, or the default where the file is not there.
abbrev pub document_reading : {A : Type 0} → A → FileNo → Shape A → Docs → Reading A
document_reading default file shape docs = part_or (found default)
    (λ tree. shape.reading (root_node file tree)) (document_of docs file)

-- The document of this file, which has to be there, as a shape.
abbrev pub required_in : {A : Type 0} → FileNo → Shape A → UnitShape A
required_in file shape = record {
  reading = required_reading file shape;
  has_form = shape.has_form;
  formed = λ docs. part_keeps shape.has_form None (λ tree. (shape.reading (root_node file tree)).value) tt
      (λ tree. shape.formed (root_node file tree)) (document_of docs file);
}

-- The document of this file, or the default where the file is not there, as a shape. The default has its
-- form.
abbrev pub document_or : {A : Type 0} (default : A) (file : FileNo) (shape : Shape A)
    → shape.has_form default ≡ true → UnitShape A
document_or default file shape is = record {
  reading = document_reading default file shape;
  has_form = shape.has_form;
  formed = λ docs. part_keeps shape.has_form (Some default)
      (λ tree. (shape.reading (root_node file tree)).value) is (λ tree. shape.formed (root_node file tree))
      (document_of docs file);
}
