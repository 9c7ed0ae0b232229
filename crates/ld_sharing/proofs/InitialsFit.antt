-- In a valid unit the initial value of each property fits its restrictions.
use Rattle.std.proofs.Common.{◌≡◌, refl, sym, ap, ◌∙◌, ℕ, inr, inl, List, [], ◌∷◌, length, map, filter_map, slice_get, Option, Some, None, Bool, true, false, ◌&&◌, ◌||◌, not, ◌==◌, codes, arith}
use Rattle.std.proofs.lemmas.Bool.{and_parts, eqb-true}
use Rattle.std.specs.List.{list_any}
use Rattle.std.specs.Option.{option_and_then}
use Rattle.ld_base.specs.Maybe.{◌>>=◌}
use Rattle.ld_json.specs.declared.code.Code.{Code}
use Rattle.ld_json.specs.declared.code.Code.TheVariants.{BadType}
use Rattle.ld_json.specs.declared.file.FileNo.TheVariants as file
use Rattle.ld_value.specs.Datum.{Datum, same_datum}
use Rattle.ld_value.specs.Values.{value_of, is_value, meets_least, meets_most, meets_min_length, meets_max_length, meets_one_of, fits_in}
use Rattle.ld_value.specs.declared.kind.Kind.{Kind}
use Rattle.ld_model.specs.Properties.{initial_of, limits_by}
use Rattle.ld_model.specs.Roles.{roles_of}
use Rattle.ld_model.specs.declared.property.Property.{Property}
use Rattle.ld_model.specs.declared.property.Restrictions.{Restrictions}
use Rattle.ld_model.specs.declared.unit.Unit.{Unit}
use Rattle.ld_model.specs.Counting.{each_numbered}
use Rattle.ld_walk.specs.ExpressionParts.{plain_part}
use Rattle.ld_walk.specs.Parts.{Declared, Types, Part}
use Rattle.ld_walk.specs.Places.{At, root, member, nth}
use Rattle.ld_parts.specs.Listing.{role_part, shared_parts, property_parts, property_parts_at, middle_parts, parts_of}
use Rattle.ld_types.specs.Faults.{fault_if}
use Rattle.ld_types.specs.PropertyFaults.{is_one_of, bounds_in, fits_texts, fits_as_initial, is_unfit, restriction_faults, property_faults}
use Rattle.ld_refs.specs.Checks.{IsValid}
use Rattle.ld_expr.specs.Owners.{fits_property}
use Rattle.ld_state.proofs.Elements.{IsIn, in_left, in_right, in_each, nothing_first, none_is_some, different}
use Rattle.ld_firing.proofs.ChecksMet.{checks_met}

-- ---- restrictions by their texts and by their values

later_holds : (a b : Bool) → b ≡ true → (a || b) ≡ true
later_holds true b is = refl
later_holds false b is = is

-- What is one of the texts is one of their values, and where there are no texts there are no values.
one_of_values : (kind : Kind) (texts : List (List ℕ)) (value : Datum) → is_one_of kind texts value ≡ true
    → meets_one_of (filter_map (value_of kind) texts) value ≡ true
one_of_values kind [] value one = refl
one_of_values kind (text ∷ texts) value one =
    later_holds (length (filter_map (value_of kind) (text ∷ texts)) == 0) among (by (length (text ∷ texts) == 0) refl one)
  where
    among : Bool
    among = list_any (same_datum value) (filter_map (value_of kind) (text ∷ texts))

    by : (b : Bool) → (length (text ∷ texts) == 0) ≡ b → (b || among) ≡ true → among ≡ true
    by true none one = absurd (omega (arith, eqb-true (length (text ∷ texts)) 0 none))
    by false some one = one

same_and_then : {A B : Type 0} (f : A → Option B) (o : Option A) → (o >>= f) ≡ option_and_then f o
same_and_then f None = refl
same_and_then f (Some x) = refl

-- What fits the texts of restrictions fits the values that they have.
fits_values : (property : Property) (found : Option Restrictions) (value : Datum)
    → fits_texts property.datatype found value ≡ true
    → fits_in property.datatype (limits_by property found) value ≡ true
unfolding fits_in
fits_values property None value fits = fits
fits_values property (Some texts) value fits =
    let kind = property.datatype in
    let both = and_parts (is_one_of kind texts.enumeration value) (fits_in kind (bounds_in kind texts) value) fits in
    (λ i. is_value kind value && (meets_least (same_and_then (value_of kind) texts.min_inclusive i) value && (meets_most (same_and_then (value_of kind) texts.max_inclusive i) value
    && (meets_min_length texts.min_length value && (meets_max_length texts.max_length value && one_of_values kind texts.enumeration value both.0 i)))))
    ∙ both.1

-- ---- what the check leaves

no_fault : (b : Bool) (code : Code) (at : At) → fault_if b code at ≡ [] → b ≡ false
no_fault true code at none = absurd (cc)
no_fault false code at none = refl

is_so : (b : Bool) → not b ≡ false → b ≡ true
is_so true is = refl
is_so false is = different is

fits_initial : (property : Property) (initial : Option (List ℕ)) (value : Datum) → is_unfit property initial ≡ false
    → (initial >>= value_of property.datatype) ≡ Some value → fits_property property value ≡ true
fits_initial property None value fit is = none_is_some is
fits_initial property (Some text) value fit is =
    fits_values property property.restrictions value
    (is_so (fits_texts property.datatype property.restrictions value)
    (ap (λ found. not (fits_as_initial property found)) (sym is) ∙ fit))

-- The check of a property is among those of the unit.
property_listed : (unit : Unit) (n : ℕ) (property : Property) (part : Part) → slice_get unit.properties n ≡ Some property
    → IsIn (property_parts (root file.Properties) n property) part → IsIn (parts_of unit) part
unfolding parts_of middle_parts
property_listed unit n property part at inside =
    in_right (map (role_part (root file.Roles)) (roles_of unit)) _ part
    (in_left (middle_parts unit) _ part
    (in_left (each_numbered (property_parts (root file.Properties)) unit.properties) _ part
    (in_each (property_parts (root file.Properties)) unit.properties n property part at inside)))

none_told : (unit : Unit) → IsValid unit → (n : ℕ) (property : Property) → slice_get unit.properties n ≡ Some property
    → property_faults (nth (root file.Properties) (codes "properties") n) property ≡ []
unfolding property_parts_at
none_told unit valid n property at =
    let place = nth (root file.Properties) (codes "properties") n in
    let part = plain_part place (Types (Declared property)) in
    ((checks_met unit valid).met part
    (property_listed unit n property part at (inr (in_right (shared_parts place property.uri) _ part (inl refl))))).types

-- The initial value of each property of a valid unit fits it.
pub initials_fit : (unit : Unit) → IsValid unit → (n : ℕ) (property : Property) → slice_get unit.properties n ≡ Some property
    → (value : Datum) → initial_of property ≡ Some value → fits_property property value ≡ true
unfolding property_faults
initials_fit unit valid n property at value is =
    let place = nth (root file.Properties) (codes "properties") n in
    fits_initial property property.initial value
    (no_fault (is_unfit property property.initial) BadType (member place (codes "initial"))
    (nothing_first (fault_if (is_unfit property property.initial) BadType (member place (codes "initial")))
    (restriction_faults property.datatype (member place (codes "restrictions")) property.restrictions) (none_told unit valid n property at)))
    is
