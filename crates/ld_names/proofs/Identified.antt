-- The identifiers of a unit, found in the list of its parts.
use Rattle.std.proofs.Common.{◌≡◌, ℕ, ◌+◌, List, [], ◌∷◌, ◌++◌, map, true, false, Option, Some, None, refl, sym, ap, ◌∙◌, arith, codes}
use Rattle.std.proofs.lemmas.Grind.{common_steps, flat_map-append}
use Rattle.std.proofs.lemmas.List.{append-nil, append_assoc, map-append}
use Rattle.std.proofs.lemmas.List.Folds.{list_any-append}
use Rattle.std.specs.Str.{bytes_eq}
use Rattle.ld_json.specs.declared.file.FileNo.TheVariants as file
use Rattle.ld_model.specs.Counting.{each_numbered, each_numbered_from}
use Rattle.ld_model.specs.RoleRows.{RoleRow}
use Rattle.ld_model.specs.Roles.{roles_of}
use Rattle.ld_model.specs.declared.property.Property.{Property as PropertyOf}
use Rattle.ld_model.specs.declared.unit.Level.TheVariants.{B}
use Rattle.ld_model.specs.declared.unit.Unit.{Unit}
use Rattle.ld_walk.specs.ExpressionParts.{plain_part}
use Rattle.ld_walk.specs.declared.kind.Kind.TheVariants as kind
use Rattle.ld_walk.specs.declared.kind.Wanted.TheVariants as wanted
use Rattle.ld_names.specs.Identifiers.{identified_by, identifiers_in, role_identified_by, role_identifiers_in, all_differ, HasDistinctIdentifiers}
use Rattle.ld_parts.specs.Listing.{shared_parts, role_part, property_parts, property_parts_at, environment_parts, activity_parts, structure_parts, method_parts, unit_parts, condition_parts, middle_parts, parts_of}
use Rattle.ld_walk.specs.CommonParts.{items_parts, optional_reference_parts}
use Rattle.ld_walk.specs.Parts.{Declared}
use Rattle.ld_walk.specs.Parts.{What, Declares, Types, Part}
use Rattle.ld_walk.specs.Places.{At, root, nth}
use Rattle.ld_names.specs.Things.{Entry, thing_in, things_in, things_of}
use Rattle.ld_names.proofs.Differing.{bytes_eq-turned}
use Rattle.ld_parts.proofs.EachPart.{Each, HoldsOfThings, is_declared, both, first_of, rest_of, environments_each, activities_each, structures_each, unit_each, conditions_each}

abbrev ids : List Entry → List (List ℕ)
ids entries = map (λ entry. entry.identifier) entries

-- ---- parts that declare only things

-- What is declared here is no role, and its identifiers are those of the things.
abbrev NamesThings : What → Type 0
NamesThings what = (role_identified_by what ≡ []) × (identified_by what ≡ ids (thing_in what))

names_things : HoldsOfThings NamesThings
names_things = record {
  other = other;
  shown = λ place id visible is. (refl, refl);
  unshown = λ place id is. (refl, refl);
}
  where
    other : (what : What) → is_declared what ≡ false → NamesThings what
    other (Declares _ _ _) plain = cc
    other _ plain = (refl, refl)

no_roles : (parts : List Part) → Each NamesThings parts → role_identifiers_in parts ≡ []
no_roles [] only = refl
no_roles (part ∷ parts) only = rw (first_of NamesThings only).0 (no_roles parts (rest_of NamesThings only))

are_things : (parts : List Part) → Each NamesThings parts → identifiers_in parts ≡ ids (things_in parts)
are_things [] only = refl
are_things (part ∷ parts) only =
    rw ((first_of NamesThings only).1, are_things parts (rest_of NamesThings only))
    (sym (map-append (λ (entry : Entry). entry.identifier) (thing_in part.what) (things_in parts)))

-- ---- roles and properties

roles_identified : (at : At) (roles : List RoleRow) → identifiers_in (map (role_part at) roles) ≡ map (λ role. role.identifier) roles
unfolding role_part
roles_identified at [] = refl
roles_identified at (role ∷ roles) = ap (λ rest. role.identifier ∷ rest) (roles_identified at roles)

roles_are_roles : (at : At) (roles : List RoleRow) → role_identifiers_in (map (role_part at) roles) ≡ map (λ role. role.identifier) roles
unfolding role_part
roles_are_roles at [] = refl
roles_are_roles at (role ∷ roles) = ap (λ rest. role.identifier ∷ rest) (roles_are_roles at roles)

roles_are_no_things : (at : At) (roles : List RoleRow) → things_in (map (role_part at) roles) ≡ []
unfolding role_part
roles_are_no_things at [] = refl
roles_are_no_things at (role ∷ roles) = roles_are_no_things at roles

-- What a property declares is itself.
abbrev IsItself : PropertyOf → List Part → Type 0
IsItself property parts = (identifiers_in parts ≡ property.identifier ∷ []) × (role_identifiers_in parts ≡ []) × (things_in parts ≡ [])

property_is_itself : (at : At) (property : PropertyOf) → IsItself property (property_parts_at at property)
unfolding property_parts_at
property_is_itself at property = by property.uri property.role
  where
    by : (uri role : Option (List ℕ)) → IsItself property (record { at = at; level = B; what = Declares kind.Property property.identifier None } ∷ (shared_parts at uri ++ (plain_part at (Types (Declared property)) ∷ optional_reference_parts at (codes "role") wanted.Role role)))
    by None None = (refl, refl, refl)
    by None (Some role) = (refl, refl, refl)
    by (Some uri) None = (refl, refl, refl)
    by (Some uri) (Some role) = (refl, refl, refl)

properties_identified : (at : At) (n : ℕ) (properties : List PropertyOf) → identifiers_in (each_numbered_from (property_parts at) n properties) ≡ map (λ property. property.identifier) properties
properties_identified at n [] = refl
properties_identified at n (property ∷ properties) =
    let here = property_parts at n property in
    let further = each_numbered_from (property_parts at) (n + 1) properties in
    flat_map-append (λ part. identified_by part.what) here further ∙ rw ((property_is_itself (nth at (codes "properties") n) property).0, properties_identified at (n + 1) properties) refl

properties_are_no_roles : (at : At) (n : ℕ) (properties : List PropertyOf) → role_identifiers_in (each_numbered_from (property_parts at) n properties) ≡ []
properties_are_no_roles at n [] = refl
properties_are_no_roles at n (property ∷ properties) =
    let here = property_parts at n property in
    let further = each_numbered_from (property_parts at) (n + 1) properties in
    flat_map-append (λ part. role_identified_by part.what) here further ∙ rw ((property_is_itself (nth at (codes "properties") n) property).1, properties_are_no_roles at (n + 1) properties) refl

properties_are_no_things : (at : At) (n : ℕ) (properties : List PropertyOf) → things_in (each_numbered_from (property_parts at) n properties) ≡ []
properties_are_no_things at n [] = refl
properties_are_no_things at n (property ∷ properties) =
    let here = property_parts at n property in
    let further = each_numbered_from (property_parts at) (n + 1) properties in
    flat_map-append (λ part. thing_in part.what) here further ∙ rw ((property_is_itself (nth at (codes "properties") n) property).2, properties_are_no_things at (n + 1) properties) refl

-- ---- the unit

roles_append : (xs ys : List Part) → role_identifiers_in (xs ++ ys) ≡ role_identifiers_in xs ++ role_identifiers_in ys
roles_append xs ys = flat_map-append (λ part. role_identified_by part.what) xs ys

identifiers_append : (xs ys : List Part) → identifiers_in (xs ++ ys) ≡ identifiers_in xs ++ identifiers_in ys
identifiers_append xs ys = flat_map-append (λ part. identified_by part.what) xs ys

things_append : (xs ys : List Part) → things_in (xs ++ ys) ≡ things_in xs ++ things_in ys
things_append xs ys = flat_map-append (λ part. thing_in part.what) xs ys

-- What stands in the documents of environments and activities.
abbrev inner_parts : Unit → List Part
inner_parts unit =
    each_numbered (environment_parts (root file.Environments)) unit.environments
    ++ (each_numbered (activity_parts (root file.Activities)) unit.activities
    ++ each_numbered (structure_parts (root file.Activities)) unit.structures)

-- What stands behind the unit itself in its own document.
abbrev own_parts : Unit → List Part
own_parts unit =
    items_parts (root file.Unit) (codes "learning-objectives") unit.learning_objectives
    ++ (items_parts (root file.Unit) (codes "prerequisites") unit.prerequisites
    ++ method_parts unit.method)

abbrev last_parts : Unit → List Part
last_parts unit = each_numbered (condition_parts (root file.Conditions)) unit.conditions

inner_only : (unit : Unit) → Each NamesThings (inner_parts unit)
inner_only unit =
    both NamesThings (environments_each NamesThings names_things (root file.Environments) unit.environments)
    (both NamesThings (activities_each NamesThings names_things (root file.Activities) unit.activities)
    (structures_each NamesThings names_things (root file.Activities) unit.structures))

own_only : (unit : Unit) → Each NamesThings (own_parts unit)
own_only unit =
    unit_each NamesThings names_things (root file.Unit) unit.learning_objectives unit.prerequisites unit.method

last_only : (unit : Unit) → Each NamesThings (last_parts unit)
last_only unit = conditions_each NamesThings names_things (root file.Conditions) unit.conditions

abbrev role_list : Unit → List (List ℕ)
role_list unit = map (λ role. role.identifier) (roles_of unit)

abbrev property_list : Unit → List (List ℕ)
property_list unit = map (λ property. property.identifier) unit.properties

-- The parts of a unit: roles, properties, things, the unit itself, and things.
abbrev parts_so : Unit → List Part
parts_so unit =
    map (role_part (root file.Roles)) (roles_of unit)
    ++ ((each_numbered (property_parts (root file.Properties)) unit.properties ++ inner_parts unit)
    ++ ((plain_part (root file.Unit) (Declares kind.Unit unit.identifier None) ∷ own_parts unit)
    ++ last_parts unit))

parts_are : (unit : Unit) → parts_of unit ≡ parts_so unit
unfolding parts_of middle_parts unit_parts
parts_are unit = refl

-- The roles among the parts of a unit are its roles.
pub roles_listed : (unit : Unit) → role_identifiers_in (parts_of unit) ≡ map (λ role. role.identifier) (roles_of unit)
roles_listed unit =
    let roles = map (role_part (root file.Roles)) (roles_of unit) in
    let properties = each_numbered (property_parts (root file.Properties)) unit.properties in
    let own = plain_part (root file.Unit) (Declares kind.Unit unit.identifier None) ∷ own_parts unit in
    let first = roles_append roles ((properties ++ inner_parts unit) ++ (own ++ last_parts unit)) in
    let second = roles_append (properties ++ inner_parts unit) (own ++ last_parts unit) in
    let third = roles_append properties (inner_parts unit) in
    let fourth = roles_append own (last_parts unit) in
    let no_property = properties_are_no_roles (root file.Properties) 0 unit.properties in
    let no_inner = no_roles (inner_parts unit) (inner_only unit) in
    let no_own = no_roles (own_parts unit) (own_only unit) in
    let no_last = no_roles (last_parts unit) (last_only unit) in
    rw (parts_are unit, first, second, third, fourth, no_property, no_inner, no_own, no_last, roles_are_roles (root file.Roles) (roles_of unit)) (append-nil (role_list unit))

-- The things of a unit are those of its inner documents, of its own and of its conditions.
things_listed : (unit : Unit) → things_of unit ≡ things_in (inner_parts unit) ++ (things_in (own_parts unit) ++ things_in (last_parts unit))
things_listed unit =
    let roles = map (role_part (root file.Roles)) (roles_of unit) in
    let properties = each_numbered (property_parts (root file.Properties)) unit.properties in
    let own = plain_part (root file.Unit) (Declares kind.Unit unit.identifier None) ∷ own_parts unit in
    let first = things_append roles ((properties ++ inner_parts unit) ++ (own ++ last_parts unit)) in
    let second = things_append (properties ++ inner_parts unit) (own ++ last_parts unit) in
    let third = things_append properties (inner_parts unit) in
    let fourth = things_append own (last_parts unit) in
    let no_role = roles_are_no_things (root file.Roles) (roles_of unit) in
    let no_property = properties_are_no_things (root file.Properties) 0 unit.properties in
    rw (parts_are unit, first, second, third, fourth, no_role, no_property) refl

-- The identifiers in document order.
identifiers_listed : (unit : Unit) → identifiers_in (parts_of unit) ≡ (role_list unit ++ (property_list unit ++ ids (things_in (inner_parts unit)))) ++ unit.identifier ∷ (ids (things_in (own_parts unit)) ++ ids (things_in (last_parts unit)))
identifiers_listed unit =
    let roles = map (role_part (root file.Roles)) (roles_of unit) in
    let properties = each_numbered (property_parts (root file.Properties)) unit.properties in
    let own = plain_part (root file.Unit) (Declares kind.Unit unit.identifier None) ∷ own_parts unit in
    let first = identifiers_append roles ((properties ++ inner_parts unit) ++ (own ++ last_parts unit)) in
    let second = identifiers_append (properties ++ inner_parts unit) (own ++ last_parts unit) in
    let third = identifiers_append properties (inner_parts unit) in
    let fourth = identifiers_append own (last_parts unit) in
    let role_ids = roles_identified (root file.Roles) (roles_of unit) in
    let property_ids = properties_identified (root file.Properties) 0 unit.properties in
    let inner_ids = are_things (inner_parts unit) (inner_only unit) in
    let own_ids = are_things (own_parts unit) (own_only unit) in
    let last_ids = are_things (last_parts unit) (last_only unit) in
    rw (parts_are unit, first, second, third, fourth, role_ids, property_ids, inner_ids, own_ids, last_ids) (sym (append_assoc (role_list unit) (property_list unit ++ ids (things_in (inner_parts unit))) (unit.identifier ∷ (ids (things_in (own_parts unit)) ++ ids (things_in (last_parts unit))))))

-- ---- that they differ

-- One of the texts may as well be the first.
differ_moved : (xs : List (List ℕ)) (x : List ℕ) (ys : List (List ℕ)) → all_differ (xs ++ x ∷ ys) ≡ true → all_differ (x ∷ (xs ++ ys)) ≡ true
differ_moved [] x ys differ = differ
differ_moved (y ∷ xs) x ys differ =
    let turned = bytes_eq-turned x y in
    let around = list_any-append (bytes_eq y) xs (x ∷ ys) in
    let without = list_any-append (bytes_eq y) xs ys in
    let rest = differ_moved xs x ys in
    grind (arith, common_steps, turned, around, without, rest)

-- Where the identifiers of all that is declared differ in document order, those of the unit do.
pub distinct_in_order : (unit : Unit) → all_differ (identifiers_in (parts_of unit)) ≡ true → HasDistinctIdentifiers unit
distinct_in_order unit differ =
    let inner = ids (things_in (inner_parts unit)) in
    let behind = ids (things_in (own_parts unit)) ++ ids (things_in (last_parts unit)) in
    let before = role_list unit ++ (property_list unit ++ inner) in
    let moved = differ_moved before unit.identifier behind (rw (identifiers_listed unit) at differ) in
    let things : ids (things_of unit) ≡ inner ++ behind =
    ap ids (things_listed unit)
    ∙ map-append (λ (entry : Entry). entry.identifier) (things_in (inner_parts unit)) (things_in (own_parts unit) ++ things_in (last_parts unit))
    ∙ ap (λ rest. inner ++ rest) (map-append (λ (entry : Entry). entry.identifier) (things_in (own_parts unit)) (things_in (last_parts unit))) in
    let whole : before ++ behind ≡ role_list unit ++ (property_list unit ++ (inner ++ behind)) =
    append_assoc (role_list unit) (property_list unit ++ inner) behind
    ∙ ap (λ rest. role_list unit ++ rest) (append_assoc (property_list unit) inner behind) in
    rw (things, sym whole) moved
