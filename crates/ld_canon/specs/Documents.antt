-- The canonical documents of a unit, what documents stand for, which are canonical, and what is printed of them.
-- (docs/FORMATS.md, "Canonical documents")
use Rattle.std.specs.Prelude.{◌≡◌, ◌↔◌, ℕ, List, Option, Some, IfSome}
use Rattle.serde_json.specs.Data.{Data, object, no_members}
use Rattle.ld_formats.specs.Units.{unit as unit_shape}
use Rattle.ld_json.specs.Docs.{document_of}
use Rattle.ld_json.specs.declared.docs.Docs.{Docs}
use Rattle.ld_json.specs.declared.file.FileNo.{FileNo}
use Rattle.ld_model.specs.declared.unit.Unit.{Unit}
use Rattle.ld_value.specs.Datum.{Datum}
use Rattle.ld_value.specs.Values.{value_of}
use Rattle.ld_value.specs.declared.kind.Kind.{Kind}
use Rattle.ld_canon.specs.Canonical.{SameUnits, canonical, canonical_text}
use Rattle.ld_canon.specs.Texts.{docs_text}
use Rattle.ld_canon.specs.Units.{documents_of}
use Rattle.ld_prints.specs.Canonical.{IsCanonical}

-- The canonical documents of the unit.
abbrev pub canonical_documents : Unit → Docs
canonical_documents unit = documents_of (canonical unit)

-- The documents are read as a unit, which is the same as this one.
pub record StandFor (docs : Docs) (unit : Unit) : Type 0 where
  pub read : Unit
  pub reads : (unit_shape.reading docs).value ≡ Some read
  pub same : SameUnits read unit

-- A document that is there has something in it.
abbrev pub HasSomething : Option Data → Type 0
HasSomething document = document ≡ Some (object no_members) → ⊥

-- The documents are canonical: each is a canonical tree, those that may be left out are there only where they have
-- something in them, and in each unit that is read from them a value text is as its value is printed.
pub record AreCanonical (docs : Docs) : Type 0 where
  pub trees : (file : FileNo) → IfSome (document_of docs file) IsCanonical
  pub properties : HasSomething docs.properties
  pub environments : HasSomething docs.environments
  pub conditions : HasSomething docs.conditions
  pub texts : (unit : Unit) → (unit_shape.reading docs).value ≡ Some unit → canonical unit ≡ unit

-- The text is that of documents that are the unit's canonical ones, and stand for it.
pub record IsCanonicalText (unit : Unit) (text : List ℕ) : Type 0 where
  pub docs : Docs
  pub are : docs ≡ canonical_documents unit
  pub canonical : AreCanonical docs
  pub stand : StandFor docs unit
  pub printed : text ≡ docs_text docs

-- The same units have the same canonical documents.
abbrev pub SameUnitsHaveOneForm : Type 0
SameUnitsHaveOneForm = (a b : Unit) → SameUnits a b → canonical_documents a ≡ canonical_documents b

-- Value texts are compared by their values: two of one datatype are printed alike exactly where these are one.
abbrev pub TextsAreComparedByValue : Type 0
TextsAreComparedByValue =
    (kind : Kind) (a b : List ℕ) (x y : Datum) → value_of kind a ≡ Some x → value_of kind b ≡ Some y
    → (canonical_text kind a ≡ canonical_text kind b) ↔ (x ≡ y)
