-- The canonical documents of a unit stand for the same unit, and those of the same units are equal.
use Rattle.std.proofs.Common.{◌≡◌, true, Some, ap, sym, ◌∙◌}
use Rattle.ld_formats.specs.Units.{is_well_formed}
use Rattle.ld_model.specs.declared.unit.Unit.{Unit}
use Rattle.ld_canon.proofs.CanonicalForms.{unit_same}
use Rattle.ld_canon.proofs.CanonicalTexts.{same_texts, texts_of_same, unit_again}
use Rattle.ld_canon.proofs.UnitReads.{unit_back}
use Rattle.ld_canon.specs.Canonical.{canonical}
use Rattle.ld_canon.specs.Documents.{SameUnitsHaveOneForm, StandFor, TextsAreComparedByValue, canonical_documents}
use Rattle.ld_canon.specs.Roles.{EachIs, IsRole}
use Rattle.ld_canon.specs.Units.{documents_of}

-- The documents are read as the unit with each value text as its value is printed, which is the same unit.
pub documents_stand : (unit : Unit) → EachIs IsRole unit.roles → is_well_formed unit ≡ true
    → StandFor (canonical_documents unit) unit
unfolding canonical
documents_stand unit are formed = record {
  read = canonical unit;
  reads = unit_back (canonical unit) are (unit_same unit ∙ formed);
  same = unit_again unit;
}

pub same_documents : SameUnitsHaveOneForm
same_documents a b same = ap documents_of same

pub compared_by_value : TextsAreComparedByValue
compared_by_value kind a b x y is_x is_y = (
  same_texts kind a b x y is_x is_y,
  λ same. texts_of_same kind a b x is_x (is_y ∙ ap Some (sym same)),
)
