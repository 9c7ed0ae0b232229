-- A unit without faults of types loses no value of a property.
use Rattle.std.proofs.Common.{◌≡◌, ℕ, zero, suc, ◌+◌, ◌<◌, List, [], ◌∷◌, ◌++◌, flat_map, map, length, Bool, true, false, not, ◌||◌, Option, Some, None, is_some, is_none, codes, refl, sym, ap, ◌∙◌, arith}
use Rattle.std.specs.Prelude.{IfSome, slice_index_or}
use Rattle.std.specs.List.{All, cons_option, filter_map}
use Rattle.std.proofs.lemmas.Grind.{flat_map-append}
use Rattle.ld_base.specs.Maybe.{◌>>=◌}
use Rattle.ld_json.specs.declared.code.Code.TheVariants.{BadType}
use Rattle.ld_json.specs.declared.file.FileNo.TheVariants as file
use Rattle.ld_json.specs.Fault.{Told}
use Rattle.ld_model.specs.Counting.{each_numbered, each_numbered_from}
use Rattle.ld_model.specs.Properties.{limits_by}
use Rattle.ld_model.specs.Roles.{roles_of}
use Rattle.ld_model.specs.declared.property.Property.{Property}
use Rattle.ld_model.specs.declared.property.Restrictions.{Restrictions}
use Rattle.ld_model.specs.declared.unit.Unit.{Unit}
use Rattle.ld_names.specs.Names.{names_of}
use Rattle.ld_parts.specs.Listing.{parts_of, property_parts, property_parts_at, shared_parts, role_part, middle_parts}
use Rattle.ld_types.specs.Faults.{fault_if}
use Rattle.ld_types.specs.PropertyFaults.{fits_as_initial, is_unfit, is_stray_bound, has_stray_length, listed_faults, restriction_faults, property_faults}
use Rattle.ld_types.specs.TermFaults.{is_no_value}
use Rattle.ld_types.specs.Types.{Find, property_named, type_of, is_ordered}
use Rattle.ld_types.specs.Typing.{type_faults, type_faults_of}
use Rattle.ld_value.specs.Datum.{Datum}
use Rattle.ld_value.specs.Values.{value_of}
use Rattle.ld_value.specs.declared.kind.Kind.{Kind}
use Rattle.ld_walk.specs.CommonParts.{optional_reference_parts}
use Rattle.ld_walk.specs.ExpressionParts.{plain_part}
use Rattle.ld_walk.specs.declared.kind.Wanted.TheVariants as wanted
use Rattle.ld_walk.specs.Parts.{Declared, Types, Part}
use Rattle.ld_walk.specs.Places.{At, member, nth, root}
use Rattle.ld_refs.specs.Bounds.{level_faults, profile_faults}
use Rattle.ld_refs.specs.Checks.{IsValid, text_faults, check_faults, meaning_faults}
use Rattle.ld_refs.specs.Reaching.{cycle_faults}
use Rattle.ld_refs.specs.Targets.{target_faults}
use Rattle.ld_refs.specs.ValuesKept.{KeepsLimits, KeepsValues}
use Rattle.ld_refs.proofs.Unrepeated.{none_before, none_behind}

-- ---- one text

-- What would be a fault is not so.
not_so : (fails : Bool) (at : At) → fault_if fails BadType at ≡ [] → fails ≡ false
not_so false at none = refl
not_so true at none = cc

-- A text that is not unfit as the initial value has a value.
initial_kept : (property : Property) (text : Option (List ℕ)) → is_unfit property text ≡ false → is_some (text >>= value_of property.datatype) ≡ is_some text
initial_kept property None fit = refl
initial_kept property (Some text) fit = by (value_of property.datatype text) fit
  where
    by : (value : Option Datum) → not (fits_as_initial property value) ≡ false → is_some value ≡ true
    by (Some value) fit = refl
    by None fit = cc

-- A text that is no stray bound has a value.
bound_kept : (kind : Kind) (text : Option (List ℕ)) → is_stray_bound kind text ≡ false → is_some (text >>= value_of kind) ≡ is_some text
bound_kept kind None ordered = refl
bound_kept kind (Some text) ordered = by (value_of kind text) ordered
  where
    by : (value : Option Datum) → (is_none value || not (is_ordered (type_of kind))) ≡ false → is_some value ≡ true
    by (Some value) ordered = refl
    by None ordered = cc

-- ---- the texts of a property

-- Listed texts without faults have a value each.
listed_kept : (kind : Kind) (at : At) (n : ℕ) (texts : List (List ℕ)) → each_numbered_from (listed_faults kind at) n texts ≡ [] → length (filter_map (value_of kind) texts) ≡ length texts
listed_kept kind at n [] none = refl
listed_kept kind at n (text ∷ texts) none =
    let further = each_numbered_from (listed_faults kind at) (n + 1) texts in
    let valued = not_so (is_no_value kind text) (nth at (codes "enumeration") n) (none_before (listed_faults kind at n text) further none) in
    by (value_of kind text) valued (listed_kept kind at (n + 1) texts (none_behind (listed_faults kind at n text) further none))
  where
    by : (value : Option Datum) → is_none value ≡ false → length (filter_map (value_of kind) texts) ≡ length texts → length (cons_option value (filter_map (value_of kind) texts)) ≡ suc (length texts)
    by (Some value) valued rest = ap suc rest
    by None valued rest = cc

-- Restrictions without faults keep their bounds and their listed values.
limits_kept : (property : Property) (at : At) (texts : Option Restrictions) → restriction_faults property.datatype at texts ≡ [] → IfSome texts (KeepsLimits (limits_by property texts))
limits_kept property at None none = tt
limits_kept property at (Some texts) none =
    let kind = property.datatype in
    let least = member at (codes "minInclusive") in
    let most = member at (codes "maxInclusive") in
    let behind_lengths = none_behind (fault_if (has_stray_length kind texts) BadType at) _ none in
    let behind_least = none_behind (fault_if (is_stray_bound kind texts.min_inclusive) BadType least) _ behind_lengths in
    record {
      least = bound_kept kind texts.min_inclusive (not_so _ least (none_before _ _ behind_lengths));
      most = bound_kept kind texts.max_inclusive (not_so _ most (none_before _ _ behind_least));
      listed = listed_kept kind at 0 texts.enumeration (none_behind _ _ behind_least);
    }

-- A property without faults keeps its values.
property_kept : (at : At) (property : Property) → property_faults at property ≡ [] → KeepsValues property
unfolding property_faults
property_kept at property none = record {
  initial = initial_kept property property.initial (not_so _ (member at (codes "initial")) (none_before _ _ none));
  limits = limits_kept property (member at (codes "restrictions")) property.restrictions (none_behind _ _ none);
}

-- ---- the properties of a unit

-- Where all parts give nothing, those in front give nothing, and those behind.
front_gives_none : (f : Part → List Told) (front back : List Part) → flat_map f (front ++ back) ≡ [] → flat_map f front ≡ []
front_gives_none f front back none = none_before (flat_map f front) (flat_map f back) (sym (flat_map-append f front back) ∙ none)

back_gives_none : (f : Part → List Told) (front back : List Part) → flat_map f (front ++ back) ≡ [] → flat_map f back ≡ []
back_gives_none f front back none = none_behind (flat_map f front) (flat_map f back) (sym (flat_map-append f front back) ∙ none)

-- The faults of a property are among those of the parts that are listed of it.
its_faults : (find : Find) (at : At) (property : Property) → flat_map (type_faults_of find) (property_parts_at at property) ≡ [] → property_faults at property ≡ []
unfolding property_parts_at
its_faults find at property none =
    let role = optional_reference_parts at (codes "role") wanted.Role property.role in
    let behind = back_gives_none (type_faults_of find) (shared_parts at property.uri) (plain_part at (Types (Declared property)) ∷ role) none in
    none_before (property_faults at property) (flat_map (type_faults_of find) role) behind

-- Properties whose parts have no faults keep their values.
each_kept : (find : Find) (n : ℕ) (properties : List Property) → flat_map (type_faults_of find) (each_numbered_from (property_parts (root file.Properties)) n properties) ≡ [] → All KeepsValues properties
each_kept find n [] none k other within = absurd (omega (arith, within))
each_kept find n (property ∷ properties) none k other within =
    let first = property_parts (root file.Properties) n property in
    let rest = each_numbered_from (property_parts (root file.Properties)) (n + 1) properties in
    let kept = property_kept _ property (its_faults find _ property (front_gives_none (type_faults_of find) first rest none)) in
    by k within kept (each_kept find (n + 1) properties (back_gives_none (type_faults_of find) first rest none))
  where
    by : (k : ℕ) → k < suc (length properties) → KeepsValues property → All KeepsValues properties → KeepsValues (slice_index_or (property ∷ properties) k other)
    by zero within first rest = first
    by (suc k) within first rest = rest k other (omega (arith, within))

-- The parts of the properties are among those of the unit.
stand_among : (f : Part → List Told) (unit : Unit) → flat_map f (parts_of unit) ≡ [] → flat_map f (each_numbered (property_parts (root file.Properties)) unit.properties) ≡ []
unfolding parts_of middle_parts
stand_among f unit none =
    let behind_roles = back_gives_none f (map (role_part (root file.Roles)) (roles_of unit)) _ none in
    front_gives_none f (each_numbered (property_parts (root file.Properties)) unit.properties) _ (front_gives_none f (middle_parts unit) _ behind_roles)

-- The check of types is one of those that find no fault in a valid unit.
types_hold : (unit : Unit) → check_faults unit ≡ [] → type_faults unit (names_of unit) (parts_of unit) ≡ []
unfolding check_faults meaning_faults
types_hold unit none =
    let names = names_of unit in
    let parts = parts_of unit in
    let meaning : meaning_faults unit names parts ≡ [] = none_before _ _ (none_behind (text_faults parts) _ none) in
    let behind_targets = none_behind (target_faults names parts) _ meaning in
    let behind_cycles = none_behind (cycle_faults unit names) _ behind_targets in
    let behind_levels = none_behind (level_faults unit.level parts) _ behind_cycles in
    none_behind (profile_faults parts) _ behind_levels

-- In a valid unit each text that is to be a value is one.
pub values_kept : (unit : Unit) → IsValid unit → All KeepsValues unit.properties
values_kept unit valid =
    let find = property_named unit (names_of unit) in
    each_kept find 0 unit.properties (stand_among (type_faults_of find) unit (types_hold unit valid.faultless))
