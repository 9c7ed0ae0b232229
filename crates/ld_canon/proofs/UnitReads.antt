-- The documents of a unit stand for the unit.
use Rattle.std.proofs.Common.{◌≡◌, List, [], ◌∷◌, map, length, Option, Some, true, nat_le, refl, ap, sym, subst, codes, unwrap_or}
use Rattle.std.specs.List.{list_all}
use Rattle.serde_json.specs.Data.{Data, string}
use Rattle.ld_formats.specs.Roles.{role_kind, role_of, role as role_shape, roles_document as roles_shape}
use Rattle.ld_formats.specs.Units.{Head, parts as parts_shape, method_documents as method_shape, unit_from, declared_parts, head_and_conditions, unit as unit_shape, is_well_formed, head as head_shape}
use Rattle.ld_formats.specs.Properties.{properties_document as properties_shape}
use Rattle.ld_formats.specs.Environments.{environments_document as environments_shape}
use Rattle.ld_formats.specs.Conditions.{conditions_document as conditions_shape}
use Rattle.ld_json.specs.declared.file.FileNo.{FileNo}
use Rattle.ld_json.specs.declared.file.FileNo.TheVariants as file
use Rattle.ld_model.specs.RoleRows.{RoleRow}
use Rattle.ld_model.specs.declared.condition.Condition.{Condition}
use Rattle.ld_model.specs.declared.unit.Parts.{Parts}
use Rattle.ld_model.specs.declared.unit.Unit.{Unit}
use Rattle.ld_model.specs.declared.role.RoleKind.TheVariants.{Learner}
use Rattle.ld_shape.specs.Reading.{at_part, option_both, option_mapped}
use Rattle.ld_shape.specs.Shapes.{Shape}
use Rattle.ld_value.proofs.Choices.{and_left, and_right}
use Rattle.ld_canon.specs.Conditions.{conditions_document}
use Rattle.ld_canon.specs.Environments.{environments_document}
use Rattle.ld_canon.specs.Properties.{properties_document}
use Rattle.ld_canon.specs.RoleGroups.{roles_in}
use Rattle.ld_canon.specs.RoleReads.{top_back}
use Rattle.ld_canon.specs.Roles.{EachIs, IsRole, inner_tree_within, role_kind_word, told_rows, role_tree, roles_tree}
use Rattle.ld_canon.specs.Structures.{activities_document}
use Rattle.ld_canon.specs.Units.{head, unless_empty, documents_of}
use Rattle.ld_prints.specs.Lists.{EachReads, list_back}
use Rattle.ld_prints.specs.ObjectRows.{object_holds}
use Rattle.ld_prints.specs.Objects.{needed_back, object_back}
use Rattle.ld_prints.specs.Printing.{placed, ReadsBack}

-- ---- the document of roles

role_back : (rows : List RoleRow) → IsRole rows → role_shape.has_form rows ≡ true
    → ReadsBack role_shape rows (role_tree rows)
unfolding role_shape role_of
role_back [] is formed = absurd is
role_back (row ∷ rows) is formed = record {
  reads = λ file place.
      let node = placed file place (role_tree (row ∷ rows)) in
      let holds = object_holds ((codes "identifier", Some (string row.identifier))
      ∷ ((codes "kind", Some (role_kind_word.print row.kind))
      ∷ told_rows row (map (inner_tree_within (length rows)) (roles_in rows)))) refl in
      let told : row.kind ≡ role_kind node =
      sym (ap (λ o. unwrap_or o Learner)
      ((needed_back (codes "kind") (role_kind_word.back row.kind refl)).reads node (holds.1.0, tt))) in
      subst (λ kind. ((role_of kind).reading node).value ≡ Some (row ∷ rows)) told
      ((top_back row.kind row rows is formed).reads file place);
}

each_role : (roles : List (List RoleRow)) → EachIs IsRole roles → list_all role_shape.has_form roles ≡ true
    → EachReads role_shape roles (map role_tree roles)
each_role [] are formed = tt
each_role (rows ∷ roles) are formed = (
  role_back rows are.0 (and_left (role_shape.has_form rows) (list_all role_shape.has_form roles) formed),
  each_role roles are.1 (and_right (role_shape.has_form rows) (list_all role_shape.has_form roles) formed),
)

roles_back : (roles : List (List RoleRow)) → EachIs IsRole roles → roles_shape.has_form roles ≡ true
    → ReadsBack roles_shape roles (roles_tree roles)
unfolding roles_shape
roles_back roles are formed =
    object_back (λ x. x) (λ x. x) (λ _. refl) roles refl refl
    (needed_back (codes "roles") (list_back (nat_le 1) role_shape roles (map role_tree roles)
    (and_left (nat_le 1 (length roles)) (list_all role_shape.has_form roles) formed)
    (each_role roles are (and_right (nat_le 1 (length roles)) (list_all role_shape.has_form roles) formed)))) refl

-- ---- documents that may be left out

-- A document of a list is read, whether it is there or left out.
list_document : {A : Type 0} (shape : Shape (List A)) (print : List A → Data) (xs : List A) (file : FileNo)
    → ReadsBack shape xs (print xs)
    → at_part (Some []) (λ tree. (shape.reading (placed file [] tree)).value) (unless_empty print xs) ≡ Some xs
list_document shape print [] file back = refl
list_document shape print (x ∷ xs) file back = back.reads file []

-- Two parts that are read are read together.
together : {A B : Type 0} {x : Option A} {y : Option B} {a : A} {b : B} → x ≡ Some a → y ≡ Some b
    → option_both x y ≡ Some (a, b)
together here next = λ i. option_both (here i) (next i)

-- ---- the unit

parts_back : (unit : Unit) → EachIs IsRole unit.roles → parts_shape.has_form (declared_parts unit) ≡ true
    → (parts_shape.reading (documents_of unit)).value ≡ Some (declared_parts unit)
unfolding parts_shape documents_of properties_document environments_document activities_document
parts_back unit are formed =
    let others = and_right (roles_shape.has_form unit.roles) _ formed in
    let more = and_right (properties_shape.has_form unit.properties) _ others in
    let roles = (roles_back unit.roles are (and_left (roles_shape.has_form unit.roles) _ formed)).reads file.Roles [] in
    let properties = list_document properties_shape properties_document.print unit.properties file.Properties
    (properties_document.back unit.properties (and_left (properties_shape.has_form unit.properties) _ others)) in
    let environments = list_document environments_shape environments_document.print unit.environments file.Environments
    (environments_document.back unit.environments (and_left (environments_shape.has_form unit.environments) _ more)) in
    let activities = (activities_document.back (unit.activities, unit.structures)
    (and_right (environments_shape.has_form unit.environments) _ more)).reads file.Activities [] in
    ap (option_mapped _) (together roles (together properties (together environments activities)))

documents_back : (unit : Unit) → method_shape.has_form (head_and_conditions unit) ≡ true
    → (method_shape.reading (documents_of unit)).value ≡ Some (head_and_conditions unit)
unfolding method_shape documents_of head conditions_document
documents_back unit formed =
    let told = (head.back (head_and_conditions unit).0
    (and_left (head_shape.has_form (head_and_conditions unit).0) _ formed)).reads file.Unit [] in
    let conditions = list_document conditions_shape conditions_document.print unit.conditions file.Conditions
    (conditions_document.back unit.conditions
    (and_right (head_shape.has_form (head_and_conditions unit).0) _ formed)) in
    together told conditions

-- The documents of a well-formed unit stand for it.
pub unit_back : (unit : Unit) → EachIs IsRole unit.roles → is_well_formed unit ≡ true
    → (unit_shape.reading (documents_of unit)).value ≡ Some unit
unfolding unit_shape is_well_formed
unit_back unit are formed =
    ap (option_mapped (λ (x : Parts × (Head × List Condition)). unit_from x.0 x.1))
    (together (parts_back unit are (and_left (parts_shape.has_form (declared_parts unit)) _ formed))
    (documents_back unit (and_right (parts_shape.has_form (declared_parts unit)) _ formed)))
