-- That in a valid unit a property has a uri exactly where it is global.
use Rattle.std.proofs.Common.{◌≡◌, refl, sym, ap, ◌∙◌, ℕ, zero, suc, List, [], ◌∷◌, length, slice_get, Option, None, Some, Bool, true, false, ◌&&◌, is_none, is_some, nat_le, true≢false}
use Rattle.std.proofs.lemmas.Bool.{and_parts, true_from_ne_false}
use Rattle.std.specs.List.{list_all}
use Rattle.ld_formats.specs.Cases.{value_text}
use Rattle.ld_formats.specs.Environments.{environments_document}
use Rattle.ld_formats.specs.Properties.{property, property_by, property_words, datatype, restrictions, owner_and_values, properties_document}
use Rattle.ld_formats.specs.Roles.{roles_document}
use Rattle.ld_formats.specs.Structures.{activities_document}
use Rattle.ld_formats.specs.Units.{is_well_formed, unit, parts, method_documents, declared_parts, head_and_conditions}
use Rattle.ld_shape.specs.Forms.{identifier, title, uri}
use Rattle.ld_shape.specs.Objects.{given, present}
use Rattle.ld_shape.specs.Words.{one_of}
use Rattle.ld_model.specs.declared.property.Property.{Property}
use Rattle.ld_model.specs.declared.property.PropertyKind.{PropertyKind}
use Rattle.ld_model.specs.declared.property.PropertyKind.TheVariants.{Loc, LocPers, LocRole, GlobPers, Glob}
use Rattle.ld_model.specs.declared.unit.Unit.{Unit}
use Rattle.ld_refs.specs.Checks.{IsValid}
use Rattle.ld_expr.specs.Owners.{is_global}
use Rattle.ld_state.proofs.Elements.{different, none_is_some, some_same}

behind : (a b c d rest : Bool) → (a && (b && (c && (d && rest)))) ≡ true → rest ≡ true
behind a b c d rest all =
    (and_parts d rest (and_parts c (d && rest) (and_parts b (c && (d && rest)) (and_parts a (b && (c && (d && rest))) all).1).1).1).1

middle : (a b c : Bool) → (a && (b && c)) ≡ true → b ≡ true
middle a b c all = (and_parts b c (and_parts a (b && c) all).1).0

-- Behind the identifier, the kind, the datatype and the title stand the role, the uri and the values.
values_formed : (kind : Option PropertyKind) (x : Property) → (property_by kind).has_form x ≡ true
    → (owner_and_values kind).shape.has_form (x.role, (x.uri, (x.initial, x.restrictions))) ≡ true
unfolding property_by
values_formed kind x formed =
    behind (identifier.has_form x.identifier) ((one_of property_words).has_form x.kind) (datatype.has_form x.datatype)
    ((given title).has_form x.title)
    ((owner_and_values kind).shape.has_form (x.role, (x.uri, (x.initial, x.restrictions)))) formed

by_kind : (kind : PropertyKind) (x : Property) → is_global kind ≡ false
    → (owner_and_values (Some kind)).shape.has_form (x.role, (x.uri, (x.initial, x.restrictions))) ≡ true
    → is_none x.uri ≡ true
unfolding owner_and_values
by_kind Loc x local formed =
    middle (is_none x.role) (is_none x.uri)
    ((given value_text).has_form x.initial && (given restrictions).has_form x.restrictions) formed
by_kind LocPers x local formed =
    middle (is_none x.role) (is_none x.uri)
    ((given value_text).has_form x.initial && (given restrictions).has_form x.restrictions) formed
by_kind LocRole x local formed =
    middle ((present identifier).has_form x.role) (is_none x.uri)
    ((given value_text).has_form x.initial && (given restrictions).has_form x.restrictions) formed
by_kind GlobPers x local formed = different local
by_kind Glob x local formed = different local

no_uri : (x : Property) → is_global x.kind ≡ false → property.has_form x ≡ true → is_none x.uri ≡ true
unfolding property
no_uri x local formed = by_kind x.kind x local (values_formed (Some x.kind) x formed)

-- The properties of a well-formed unit have their form: behind the roles.
properties_formed : (x : Unit) → is_well_formed x ≡ true → list_all property.has_form x.properties ≡ true
unfolding is_well_formed unit parts properties_document environments_document
properties_formed x formed =
    let all = and_parts (parts.has_form (declared_parts x)) (method_documents.has_form (head_and_conditions x)) formed in
    let listed = middle (roles_document.has_form x.roles) (properties_document.has_form x.properties)
    (environments_document.has_form x.environments && activities_document.has_form (x.activities, x.structures)) all.0 in
    (and_parts (nat_le 0 (length x.properties)) (list_all property.has_form x.properties) listed).1

-- ---- the other way

no_present : (text : Option (List ℕ)) → is_some text ≡ false → (present uri).has_form text ≡ true → ⊥
no_present None none formed = true≢false (sym formed)
no_present (Some x) none formed = true≢false none

present_or_local : (kind : PropertyKind) (x : Property) → is_some x.uri ≡ false
    → (owner_and_values (Some kind)).shape.has_form (x.role, (x.uri, (x.initial, x.restrictions))) ≡ true
    → is_global kind ≡ false
unfolding owner_and_values
present_or_local Loc x unnamed formed = refl
present_or_local LocPers x unnamed formed = refl
present_or_local LocRole x unnamed formed = refl
present_or_local GlobPers x unnamed formed =
    absurd (no_present x.uri unnamed (middle (is_none x.role) ((present uri).has_form x.uri)
    ((given value_text).has_form x.initial && (given restrictions).has_form x.restrictions) formed))
present_or_local Glob x unnamed formed =
    absurd (no_present x.uri unnamed (middle (is_none x.role) ((present uri).has_form x.uri)
    ((given value_text).has_form x.initial && (given restrictions).has_form x.restrictions) formed))

not_global : (x : Property) → is_some x.uri ≡ false → property.has_form x ≡ true → is_global x.kind ≡ false
unfolding property
not_global x unnamed formed = present_or_local x.kind x unnamed (values_formed (Some x.kind) x formed)

-- ---- in a unit

formed_at : (properties : List Property) → list_all property.has_form properties ≡ true → (n : ℕ) (x : Property)
    → slice_get properties n ≡ Some x → property.has_form x ≡ true
formed_at [] formed n x at = none_is_some at
formed_at (y ∷ ys) formed zero x at =
    ap property.has_form (sym (some_same at)) ∙ (and_parts (property.has_form y) (list_all property.has_form ys) formed).0
formed_at (y ∷ ys) formed (suc n) x at =
    formed_at ys (and_parts (property.has_form y) (list_all property.has_form ys) formed).1 n x at

-- A property that has a uri is global.
pub named_is_global : (unit : Unit) → IsValid unit → (n : ℕ) (x : Property) → slice_get unit.properties n ≡ Some x
    → (name : List ℕ) → x.uri ≡ Some name → is_global x.kind ≡ true
named_is_global unit valid n x at name named =
    true_from_ne_false (is_global x.kind) (λ local.
    true≢false (sym (no_uri x local (formed_at unit.properties (properties_formed unit valid.formed) n x at)) ∙ ap is_none named))

-- A property that is global has a uri.
pub global_is_named : (unit : Unit) → IsValid unit → (n : ℕ) (x : Property) → slice_get unit.properties n ≡ Some x
    → is_global x.kind ≡ true → is_some x.uri ≡ true
global_is_named unit valid n x at global =
    true_from_ne_false (is_some x.uri) (λ unnamed.
    true≢false (sym global ∙ not_global x unnamed (formed_at unit.properties (properties_formed unit valid.formed) n x at)))
