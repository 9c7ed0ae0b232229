-- Units are well-formed as they are read.
use Rattle.std.proofs.Common.{◌≡◌, List, [], ◌∷◌, Option, Some, None, Bool, true, Result, Ok, Err, IfOk, refl, ap, sym, ◌∙◌}
use Rattle.ld_formats.specs.Units.{Head, parts, method_documents, method_with, unit, unit_from, declared_parts, head_and_conditions, is_well_formed}
use Rattle.ld_json.specs.Fault.{Told}
use Rattle.ld_json.specs.declared.fault.ReadFault.{ReadFault}
use Rattle.ld_json.specs.declared.docs.Docs.{Docs}
use Rattle.ld_model.specs.declared.condition.Condition.{Condition}
use Rattle.ld_model.specs.declared.unit.Parts.{Parts}
use Rattle.ld_model.specs.declared.unit.Unit.{Unit}
use Rattle.ld_shape.specs.Keeping.{Keeps}
use Rattle.ld_shape.specs.Reading.{ValueOrFaults, option_mapped, GivesOrSays}
use Rattle.ld_value.proofs.Choices.{both}

kept : {A : Type 0} (form : A → Bool) (o : Option A) (x : A) → Keeps form o → o ≡ Some x → form x ≡ true
kept form None x keeps is = cc
kept form (Some y) x keeps is = let same : y ≡ x = cc in ap form (sym same) ∙ keeps

same_parts : (own : Parts) (told : Option (Head × List Condition)) (x : Unit)
    → option_mapped (unit_from own) told ≡ Some x → declared_parts x ≡ own
same_parts own None x is = cc
same_parts own (Some told) x is = let same : unit_from own told ≡ x = cc in ap declared_parts (sym same)

-- The unit of parts that were read and of what was read of the method.
pub well_formed : (docs : Docs) (own : Parts) (x : Unit) → (parts.reading docs).value ≡ Some own
    → ((method_with own).reading docs).value ≡ Some x → is_well_formed x ≡ true
unfolding is_well_formed unit
well_formed docs own x is made =
    both (parts.has_form (declared_parts x)) (method_documents.has_form (head_and_conditions x))
    (ap parts.has_form (same_parts own (method_documents.reading docs).value x made)
    ∙ kept parts.has_form (parts.reading docs).value own (parts.formed docs) is)
    (kept (method_with own).has_form ((method_with own).reading docs).value x
    ((method_with own).formed docs) made)

-- What is answered so is a well-formed unit.
pub answers_formed : (docs : Docs) (own : Parts) (result : Result Unit ReadFault)
    → (parts.reading docs).value ≡ Some own → GivesOrSays ((method_with own).reading docs) result
    → IfOk result (λ x. is_well_formed x ≡ true)
answers_formed docs own (Ok x) is gives = well_formed docs own x is gives.value
answers_formed docs own (Err error) is gives = tt

-- No fault, so there is a value, and it has its form.
there_is : {A : Type 0} (form : A → Bool) (o : Option A) (faults : List Told) → ValueOrFaults o faults
    → Keeps form o → faults ≡ [] → (x : A) × (o ≡ Some x) × (form x ≡ true)
there_is form (Some x) faults agree keeps none = (x, refl, keeps)
there_is form None [] agree keeps none = absurd agree
there_is form None (_ ∷ _) agree keeps none = cc

pub stands_for_one : (docs : Docs) → (unit.reading docs).faults ≡ []
    → (x : Unit) × ((unit.reading docs).value ≡ Some x) × (is_well_formed x ≡ true)
unfolding is_well_formed
stands_for_one docs none = there_is unit.has_form (unit.reading docs).value (unit.reading docs).faults
    (unit.reading docs).agree (unit.formed docs) none
