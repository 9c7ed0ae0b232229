-- The faults of files as documents, of the documents' shapes, and of the unit, one behind the other.
use Rattle.std.proofs.Common.{◌≡◌, [], ◌++◌, Some, sym, subst, ◌∙◌, append_assoc}
use Rattle.ld_json.specs.Fault.{SaysFirst}
use Rattle.ld_json.specs.declared.docs.Docs.{Docs}
use Rattle.ld_json.specs.declared.fault.ReadFault.{ReadFault}
use Rattle.ld_json.proofs.First.{says_later, says_more}
use Rattle.ld_model.specs.declared.unit.Unit.{Unit}
use Rattle.ld_refs.specs.Checks.{check_faults}
use Rattle.ld_top.specs.Folder.{Held, docs_in, document_faults, faults_of_unit, json_faults, shape_faults, unit_of}
use Rattle.ld_top.specs.Reading.{content_faults, form_faults}

-- ---- documents and their shapes

pub says_json : (held : Held) (error : ReadFault) → SaysFirst (json_faults held) error → SaysFirst (form_faults held) error
unfolding form_faults
says_json held error said = says_more (json_faults held) (shape_faults (docs_in held)) error said

pub says_shapes : (held : Held) (docs : Docs) (error : ReadFault) → json_faults held ≡ [] → docs ≡ docs_in held → SaysFirst (shape_faults docs) error → SaysFirst (form_faults held) error
unfolding form_faults
says_shapes held docs error none is said = says_later (json_faults held) (shape_faults (docs_in held)) error none (subst (λ d. SaysFirst (shape_faults d) error) is said)

pub none_in_form : (held : Held) (docs : Docs) → json_faults held ≡ [] → docs ≡ docs_in held → shape_faults docs ≡ [] → form_faults held ≡ []
unfolding form_faults
none_in_form held docs none is faultless = rw (none, ← is) faultless

-- ---- what the documents say, and then the checks of the unit

split : (held : Held) → form_faults held ++ faults_of_unit (unit_of (docs_in held)) ≡ content_faults held
unfolding form_faults content_faults document_faults
split held = append_assoc (json_faults held) (shape_faults (docs_in held)) (faults_of_unit (unit_of (docs_in held)))

pub says_form : (held : Held) (error : ReadFault) → SaysFirst (form_faults held) error → SaysFirst (content_faults held) error
says_form held error said = subst (λ faults. SaysFirst faults error) (split held) (says_more (form_faults held) (faults_of_unit (unit_of (docs_in held))) error said)

pub says_unit : (held : Held) (unit : Unit) (error : ReadFault) → form_faults held ≡ [] → unit_of (docs_in held) ≡ Some unit → SaysFirst (check_faults unit) error → SaysFirst (content_faults held) error
says_unit held unit error none there said =
    let faults : faults_of_unit (unit_of (docs_in held)) ≡ check_faults unit = rw there in
    subst (λ all. SaysFirst all error) (split held) (says_later (form_faults held) (faults_of_unit (unit_of (docs_in held))) error none (subst (λ more. SaysFirst more error) (sym faults) said))

pub none_in_content : (held : Held) (unit : Unit) → form_faults held ≡ [] → unit_of (docs_in held) ≡ Some unit → check_faults unit ≡ [] → content_faults held ≡ []
none_in_content held unit none there faultless =
    let faults : faults_of_unit (unit_of (docs_in held)) ≡ check_faults unit = rw there in
    sym (split held) ∙ rw none (faults ∙ faultless)
