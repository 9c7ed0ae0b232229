-- Where the store says something of a cell, it is the value of the key for which the run has that cell.
use Rattle.std.proofs.Common.{◌≡◌, refl, ap, ap₂, ◌∙◌, ℕ, List, slice_get, Option, Some, None, Bool, true, false, arith}
use Rattle.std.specs.Option.{option_map}
use Rattle.ld_base.specs.Maybe.{◌>>=◌, provided}
use Rattle.ld_value.specs.Datum.{Datum}
use Rattle.ld_model.specs.Counting.{number_where}
use Rattle.ld_model.specs.Properties.{is_personal}
use Rattle.ld_model.specs.declared.cell.CellName.{CellName}
use Rattle.ld_model.specs.declared.cell.CellName.TheVariants.{Prop, Vis, Member, Chosen, Opened, ActOpened, Started, Mark, Now, Roster}
use Rattle.ld_model.specs.declared.cell.Owner.{Owner}
use Rattle.ld_model.specs.declared.cell.Owner.TheVariants.{Run, Person}
use Rattle.ld_model.specs.declared.property.Property.{Property}
use Rattle.ld_model.specs.declared.unit.Unit.{Unit}
use Rattle.ld_names.specs.Identifiers.{all_differ}
use Rattle.ld_expr.specs.Owners.{is_global, of_person}
use Rattle.ld_expr.specs.Seen.{property_cell}
use Rattle.ld_roles.specs.Roster.{PersonState, Persons, person_number}
use Rattle.ld_firing.specs.RunSystem.{HaveNamesOfTheirOwn}
use Rattle.ld_state.specs.GlobalValues.{GlobalValues}
use Rattle.ld_state.proofs.Elements.{none_is_some, some_same}
use Rattle.ld_sharing.specs.Globals.{cell_of_key, has_uri, store_person, store_says}
use Rattle.ld_sharing.proofs.GivingFirsts.{Has, first_named, first_with}
use Rattle.ld_sharing.proofs.UrisDiffer.{uris_of}

-- The key of a cell, and its value.
pub record IsSaidBy (unit : Unit) (store : GlobalValues) (persons : Persons) (cell : CellName) (value : Option Datum) : Type 0 where
  pub uri : List ℕ
  pub person : Option (List ℕ)
  pub cell_is : cell_of_key unit persons uri person ≡ Some cell
  pub value_is : store uri person ≡ value

module _ (unit : Unit) (store : GlobalValues) (persons : Persons) (uris : all_differ (uris_of unit.properties) ≡ true)
    (names : HaveNamesOfTheirOwn persons) where
  first_uri : (n : ℕ) (property : Property) (uri : List ℕ) (personal : Bool)
      → slice_get unit.properties n ≡ Some property → Has uri personal property
      → number_where (has_uri uri personal) unit.properties ≡ Some n
  first_uri n property uri personal at has =
      first_with uri personal 0 unit.properties n property uris at has ∙ ap Some (omega arith)

  first_name : (p : ℕ) (person : PersonState) → slice_get persons p ≡ Some person
      → person_number persons person.name ≡ Some p
  first_name p person at = first_named 0 persons p person names at ∙ ap Some (omega arith)

  -- Of a property's cell.
  module _ (n : ℕ) (property : Property) (at : slice_get unit.properties n ≡ Some property) (uri : List ℕ)
      (named : property.uri ≡ Some uri) (value : Option Datum) where
    said_of_run : is_personal property.kind ≡ false → store uri None ≡ value
        → IsSaidBy unit store persons (property_cell n Run) value
    said_of_run own is = record {
      uri = uri;
      person = None;
      cell_is = ap (option_map (λ m. property_cell m Run)) (first_uri n property uri false at (record { named = named; own = own }));
      value_is = is;
    }

    said_of_person : is_personal property.kind ≡ true → (p : ℕ) (person : PersonState) → slice_get persons p ≡ Some person
        → store uri (Some person.name) ≡ value → IsSaidBy unit store persons (property_cell n (of_person p)) value
    said_of_person own p person there is = record {
      uri = uri;
      person = Some person.name;
      cell_is = ap₂ (λ (found who : Option ℕ). found >>= λ m. who >>= λ q. Some (property_cell m (of_person q)))
          (first_uri n property uri true at (record { named = named; own = own })) (first_name p person there);
      value_is = is;
    }

    said_by_kind : (personal : Bool) → is_personal property.kind ≡ personal → (owner : Owner)
        → (store_person persons personal owner >>= λ person. Some (store uri person)) ≡ Some value
        → IsSaidBy unit store persons (property_cell n owner) value
    said_by_kind false own Run said = said_of_run own (some_same said)
    said_by_kind false own (Person p) said = none_is_some said
    said_by_kind true own Run said = none_is_some said
    said_by_kind true own (Person p) said = by (slice_get persons p.0) refl said
      where
        by : (found : Option PersonState) → slice_get persons p.0 ≡ found
            → (option_map (λ (person : PersonState). Some person.name) found >>= λ person. Some (store uri person)) ≡ Some value
            → IsSaidBy unit store persons (property_cell n (Person p)) value
        by None there said = none_is_some said
        by (Some person) there said = said_of_person own p.0 person there (some_same said)

  said_of_property : (n : ℕ) (owner : Owner) (value : Option Datum)
      → store_says unit store persons (property_cell n owner) ≡ Some value
      → IsSaidBy unit store persons (property_cell n owner) value
  said_of_property n owner value said = at_number (slice_get unit.properties n) refl said
    where
      with_uri : (property : Property) → slice_get unit.properties n ≡ Some property
          → (o : Option (List ℕ)) → property.uri ≡ o
          → (o >>= λ uri. store_person persons (is_personal property.kind) owner >>= λ person. Some (store uri person)) ≡ Some value
          → IsSaidBy unit store persons (property_cell n owner) value
      with_uri property at None named said = none_is_some said
      with_uri property at (Some uri) named said =
          said_by_kind n property at uri named value (is_personal property.kind) refl owner said

      with_kind : (property : Property) → slice_get unit.properties n ≡ Some property → (global : Bool)
          → ((provided global property >>= λ one. one.uri) >>= λ uri. store_person persons (is_personal property.kind) owner >>= λ person. Some (store uri person)) ≡ Some value
          → IsSaidBy unit store persons (property_cell n owner) value
      with_kind property at true said = with_uri property at property.uri refl said
      with_kind property at false said = none_is_some said

      at_number : (found : Option Property) → slice_get unit.properties n ≡ found
          → (found >>= λ property. (provided (is_global property.kind) property >>= λ one. one.uri) >>= λ uri. store_person persons (is_personal property.kind) owner >>= λ person. Some (store uri person)) ≡ Some value
          → IsSaidBy unit store persons (property_cell n owner) value
      at_number None at said = none_is_some said
      at_number (Some property) at said = with_kind property at (is_global property.kind) said

  pub said_by : (cell : CellName) (value : Option Datum) → store_says unit store persons cell ≡ Some value
      → IsSaidBy unit store persons cell value
  said_by (Prop p owner) value said = said_of_property p.0 owner value said
  said_by (Vis t p) value said = none_is_some said
  said_by (Member r p) value said = none_is_some said
  said_by (Chosen t owner) value said = none_is_some said
  said_by (Opened t owner) value said = none_is_some said
  said_by (ActOpened t) value said = none_is_some said
  said_by Started value said = none_is_some said
  said_by (Mark r owner) value said = none_is_some said
  said_by Now value said = none_is_some said
  said_by Roster value said = none_is_some said
