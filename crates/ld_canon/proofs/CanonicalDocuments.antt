-- The canonical documents of a unit are canonical.
use Rattle.std.proofs.Common.{◌≡◌, List, [], ◌∷◌, map, length, ℕ, Some, IfSome, Bool, true, false, true≢false, nat_le, codes, refl, ap, sym, subst, ◌∙◌}
use Rattle.std.specs.List.{list_all}
use Rattle.serde_json.specs.Data.{Data, object, no_members}
use Rattle.serde_json.specs.View.{items_of}
use Rattle.ld_formats.specs.Conditions.{conditions_document as conditions_shape}
use Rattle.ld_formats.specs.Environments.{environments_document as environments_shape}
use Rattle.ld_formats.specs.Properties.{properties_document as properties_shape}
use Rattle.ld_formats.specs.Roles.{role as role_shape, roles_document as roles_shape}
use Rattle.ld_formats.specs.Structures.{activities_document as activities_shape}
use Rattle.ld_formats.specs.Units.{parts as parts_shape, method_documents as method_shape, declared_parts, head_and_conditions, unit as unit_shape, is_well_formed, head as head_shape}
use Rattle.ld_json.specs.Docs.{document_of}
use Rattle.ld_json.specs.declared.file.FileNo.{FileNo}
use Rattle.ld_json.specs.declared.file.FileNo.TheVariants as file
use Rattle.ld_model.specs.RoleRows.{RoleRow}
use Rattle.ld_model.specs.declared.unit.Unit.{Unit}
use Rattle.ld_value.proofs.Choices.{and_left, and_right}
use Rattle.ld_canon.proofs.CanonicalForms.{unit_same}
use Rattle.ld_canon.proofs.CanonicalRoles.{roles_canonical}
use Rattle.ld_canon.proofs.CanonicalTexts.{unit_again}
use Rattle.ld_canon.proofs.UnitReads.{unit_back}
use Rattle.ld_canon.specs.Canonical.{canonical}
use Rattle.ld_canon.specs.Conditions.{condition, conditions_document}
use Rattle.ld_canon.specs.Documents.{AreCanonical, HasSomething, canonical_documents}
use Rattle.ld_canon.specs.Environments.{environment, environments_document}
use Rattle.ld_canon.specs.Properties.{property, properties_document}
use Rattle.ld_canon.specs.Roles.{EachIs, IsRole, role_tree, roles_tree}
use Rattle.ld_canon.specs.Structures.{activities_document}
use Rattle.ld_canon.specs.Units.{head, unless_empty, documents_of}
use Rattle.ld_prints.specs.Canonical.{HasItem, IsCanonical}
use Rattle.ld_prints.specs.Lists.{array_of, is_nil, nil_is}
use Rattle.ld_prints.specs.Objects.{unless_default}
use Rattle.ld_prints.specs.Printing.{Printed}
use Rattle.ld_prints.specs.Rows.{object_of}

-- ---- single documents

have_roles : (roles : List (List RoleRow)) → nat_le 1 (length roles) ≡ true → HasItem (items_of (map role_tree roles))
have_roles [] is = cc
have_roles (rows ∷ roles) is = tt

roles_document : (roles : List (List RoleRow)) → EachIs IsRole roles → roles_shape.has_form roles ≡ true
    → IsCanonical (roles_tree roles)
unfolding roles_shape
roles_document roles are formed = roles_canonical roles
    (have_roles roles (and_left (nat_le 1 (length roles)) (list_all role_shape.has_form roles) formed)) are

-- A document of a list is canonical where it is there.
list_canonical : {A : Type 0} (p : Printed (List A)) (xs : List A) → p.shape.has_form xs ≡ true
    → IfSome (unless_empty p.print xs) IsCanonical
list_canonical p [] formed = tt
list_canonical p (x ∷ xs) formed = p.canonical (x ∷ xs) formed

-- The tree is not that of an object without members.
abbrev has_members : Data → Bool
has_members (object no_members) = false
has_members _ = true

filled_at : {A : Type 0} (x : A) (xs : List A) (test : Bool) → is_nil (x ∷ xs) ≡ test → test ≡ false
filled_at x xs true is = let none : x ∷ xs ≡ [] = nil_is (x ∷ xs) is in cc
filled_at x xs false is = refl

-- An object of a list that is not empty has a member.
one_member : {A : Type 0} (name : List ℕ) (print : List A → Data) (x : A) (xs : List A)
    → object_of ((name, unless_default (is_nil (x ∷ xs)) print (x ∷ xs)) ∷ []) ≡ object no_members → ⊥
one_member name print x xs same =
    true≢false (ap (λ test. has_members (object_of ((name, unless_default test print (x ∷ xs)) ∷ [])))
    (sym (filled_at x xs (is_nil (x ∷ xs)) refl)) ∙ ap has_members same)

-- A document of a list has something in it where it is there.
list_has : {A : Type 0} (print : List A → Data) → ((x : A) (xs : List A) → print (x ∷ xs) ≡ object no_members → ⊥)
    → (xs : List A) → HasSomething (unless_empty print xs)
list_has print law [] = λ same. cc
list_has print law (x ∷ xs) = λ same. law x xs cc

properties_have : (unit : Unit) → HasSomething (unless_empty properties_document.print unit.properties)
unfolding properties_document
properties_have unit = list_has properties_document.print
    (λ x xs same. one_member (codes "properties") (array_of property.print) x xs same) unit.properties

environments_have : (unit : Unit) → HasSomething (unless_empty environments_document.print unit.environments)
unfolding environments_document
environments_have unit = list_has environments_document.print
    (λ x xs same. one_member (codes "environments") (array_of environment.print) x xs same) unit.environments

conditions_have : (unit : Unit) → HasSomething (unless_empty conditions_document.print unit.conditions)
unfolding conditions_document
conditions_have unit = list_has conditions_document.print
    (λ x xs same. one_member (codes "conditions") (array_of condition.print) x xs same) unit.conditions

-- ---- the documents of a well-formed unit

-- What the form of a unit says of the document of each file.
roles_formed : (unit : Unit) → is_well_formed unit ≡ true → roles_shape.has_form unit.roles ≡ true
unfolding is_well_formed parts_shape unit_shape
roles_formed unit formed =
    and_left (roles_shape.has_form unit.roles) _ (and_left (parts_shape.has_form (declared_parts unit)) _ formed)

properties_formed : (unit : Unit) → is_well_formed unit ≡ true → properties_shape.has_form unit.properties ≡ true
unfolding is_well_formed parts_shape unit_shape
properties_formed unit formed =
    and_left (properties_shape.has_form unit.properties) _
    (and_right (roles_shape.has_form unit.roles) _ (and_left (parts_shape.has_form (declared_parts unit)) _ formed))

environments_formed : (unit : Unit) → is_well_formed unit ≡ true
    → environments_shape.has_form unit.environments ≡ true
unfolding is_well_formed parts_shape unit_shape
environments_formed unit formed =
    and_left (environments_shape.has_form unit.environments) _
    (and_right (properties_shape.has_form unit.properties) _
    (and_right (roles_shape.has_form unit.roles) _ (and_left (parts_shape.has_form (declared_parts unit)) _ formed)))

activities_formed : (unit : Unit) → is_well_formed unit ≡ true
    → activities_shape.has_form (unit.activities, unit.structures) ≡ true
unfolding is_well_formed parts_shape unit_shape
activities_formed unit formed =
    and_right (environments_shape.has_form unit.environments) _
    (and_right (properties_shape.has_form unit.properties) _
    (and_right (roles_shape.has_form unit.roles) _ (and_left (parts_shape.has_form (declared_parts unit)) _ formed)))

head_formed : (unit : Unit) → is_well_formed unit ≡ true → head_shape.has_form (head_and_conditions unit).0 ≡ true
unfolding is_well_formed method_shape unit_shape
head_formed unit formed =
    and_left (head_shape.has_form (head_and_conditions unit).0) _
    (and_right (parts_shape.has_form (declared_parts unit)) _ formed)

conditions_formed : (unit : Unit) → is_well_formed unit ≡ true → conditions_shape.has_form unit.conditions ≡ true
unfolding is_well_formed method_shape unit_shape
conditions_formed unit formed =
    and_right (head_shape.has_form (head_and_conditions unit).0) _
    (and_right (parts_shape.has_form (declared_parts unit)) _ formed)

-- The document of each file is canonical.
trees_canonical : (unit : Unit) → EachIs IsRole unit.roles → is_well_formed unit ≡ true → (of_file : FileNo)
    → IfSome (document_of (documents_of unit) of_file) IsCanonical
unfolding documents_of properties_document environments_document activities_document head conditions_document
trees_canonical unit are formed file.Roles = roles_document unit.roles are (roles_formed unit formed)
trees_canonical unit are formed file.Properties =
    list_canonical properties_document unit.properties (properties_formed unit formed)
trees_canonical unit are formed file.Environments =
    list_canonical environments_document unit.environments (environments_formed unit formed)
trees_canonical unit are formed file.Activities =
    activities_document.canonical (unit.activities, unit.structures) (activities_formed unit formed)
trees_canonical unit are formed file.Unit = head.canonical (head_and_conditions unit).0 (head_formed unit formed)
trees_canonical unit are formed file.Conditions =
    list_canonical conditions_document unit.conditions (conditions_formed unit formed)

-- A unit that is read from the documents has each value text as its value is printed.
texts_canonical : (unit read : Unit) → EachIs IsRole unit.roles → is_well_formed unit ≡ true
    → (unit_shape.reading (documents_of (canonical unit))).value ≡ Some read → canonical read ≡ read
unfolding canonical
texts_canonical unit read are formed reads =
    let back = unit_back (canonical unit) are (unit_same unit ∙ formed) in
    let found : Some (canonical unit) ≡ Some read = sym back ∙ reads in
    let same : canonical unit ≡ read = cc in
    subst (λ one. canonical one ≡ one) same (unit_again unit)

-- The canonical documents of a well-formed unit are canonical.
pub documents_canonical : (unit : Unit) → EachIs IsRole unit.roles → is_well_formed unit ≡ true
    → AreCanonical (canonical_documents unit)
unfolding canonical documents_of
documents_canonical unit are formed = record {
  trees = trees_canonical (canonical unit) are (unit_same unit ∙ formed);
  properties = properties_have (canonical unit);
  environments = environments_have (canonical unit);
  conditions = conditions_have (canonical unit);
  texts = λ read reads. texts_canonical unit read are formed reads;
}
