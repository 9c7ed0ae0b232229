-- What the properties that a command names are.
use Rattle.std.proofs.Common.{◌≡◌, refl, sym, ap, subst, ◌∙◌, ℕ, ◌<◌, List, length, Option, Some, None, true, slice_get, arith, Contains}
use Rattle.std.proofs.lemmas.List.{length-map}
use Rattle.std.proofs.lemmas.Option.{slice_get_within, slice_get-map}
use Rattle.std.specs.Option.{option_map}
use Rattle.ld_base.specs.Maybe.{◌>>=◌}
use Rattle.ld_value.specs.Datum.{Datum}
use Rattle.ld_value.specs.Values.{Restrictions, is_value}
use Rattle.ld_model.specs.Properties.{limits_by}
use Rattle.ld_model.specs.declared.property.Property.{Property}
use Rattle.ld_model.specs.declared.unit.Unit.{Unit}
use Rattle.ld_names.specs.Holders.{holder_of, is_held_by_persons}
use Rattle.ld_names.specs.Names.{names_of}
use Rattle.ld_expr.specs.Lookup.{is_some_and, property_number}
use Rattle.ld_expr.specs.Owners.{of_person, value_owner}
use Rattle.ld_expr.specs.Terms.{property_cell_of}
use Rattle.ld_state.specs.RunCells.{all_cells, suits_cell, widest_of}
use Rattle.ld_state.specs.StateView.{StateView, run_of}
use Rattle.ld_state.proofs.Elements.{contains_from_in, none_is_some, some_same}
use Rattle.ld_state.proofs.SeenSame.{persons_counted}
use Rattle.ld_firing.proofs.CellsThere.{value_there}
use Rattle.ld_firing.proofs.Effects.{widens}
use Rattle.ld_firing.proofs.Named.{value_owner_there}
use Rattle.ld_admission.specs.AdmittedView.{HasPropertyCell}
use Rattle.ld_admission.specs.Found.{FoundProperty, numbered_property, property_found}

-- What is found by a name is the property of its number.
pub found_at : (unit : Unit) (id : List ℕ) (it : FoundProperty) → property_found unit id ≡ Some it → slice_get unit.properties it.number ≡ Some it.property
found_at unit id it is = by (property_number unit id) is
  where
    at : (n : ℕ) (one : Option Property) → slice_get unit.properties n ≡ one → (one >>= λ property. Some (numbered_property n property)) ≡ Some it → slice_get unit.properties it.number ≡ Some it.property
    at n None stands is = none_is_some is
    at n (Some property) stands is = subst (λ (found : FoundProperty). slice_get unit.properties found.number ≡ Some found.property) (some_same is) stands

    by : (number : Option ℕ) → (number >>= λ n. slice_get unit.properties n >>= λ property. Some (numbered_property n property)) ≡ Some it → slice_get unit.properties it.number ≡ Some it.property
    by None is = none_is_some is
    by (Some n) is = at n (slice_get unit.properties n) refl is

-- A run has the cell of a property for a person who is there.
pub cell_there : (unit : Unit) (s : StateView) (p n : ℕ) (property : Property) → p < length s.rows → slice_get unit.properties n ≡ Some property
    → HasPropertyCell unit (run_of s) (property_cell_of unit (of_person p) n property)
cell_there unit s p n property below at =
    let cell = property_cell_of unit (of_person p) n property in
    let holder = holder_of unit property in
    let persons = length s.rows in
    let inside = value_there unit persons n property (value_owner holder (of_person p)) at (is_held_by_persons holder) refl
    (value_owner_there persons p holder below) in
    record {
      there = subst (λ m. Contains (all_cells unit m) cell) (sym (persons_counted s)) (contains_from_in (all_cells unit persons) cell inside);
      property = refl;
    }

-- A value of the property's datatype suits its cell.
pub cell_suits : (unit : Unit) (p n : ℕ) (property : Property) (value : Datum) → slice_get unit.properties n ≡ Some property
    → is_value property.datatype value ≡ true → suits_cell unit (property_cell_of unit (of_person p) n property) (Some value) ≡ true
cell_suits unit p n property value at sort =
    subst (λ (o : Option Property). is_some_and (λ datatype. is_value datatype value) (option_map (λ one. widest_of one.datatype) o) ≡ true) (sym at)
    (widens property.datatype value sort)

-- The restrictions that the names keep of the property.
pub limits_are : (unit : Unit) (n : ℕ) (property : Property) (limits : Restrictions) → slice_get unit.properties n ≡ Some property → Some limits ≡ slice_get (names_of unit).limits n
    → limits ≡ limits_by property property.restrictions
limits_are unit n property limits at is =
    some_same (is ∙ slice_get-map (λ (one : Property). limits_by one one.restrictions) unit.properties n ∙ ap (option_map (λ (one : Property). limits_by one one.restrictions)) at)

pub has_property : (unit : Unit) (n : ℕ) (property : Property) → slice_get unit.properties n ≡ Some property → n < length (names_of unit).properties
has_property unit n property at =
    omega (arith, slice_get_within unit.properties n property at, length-map unit.properties (λ (one : Property). one.identifier))
