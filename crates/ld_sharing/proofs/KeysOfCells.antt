-- The key of a cell is that for which the run has the cell, and each such cell has a slot.
use Rattle.std.proofs.Common.{◌≡◌, refl, sym, ap, ap₂, subst, ◌∙◌, ℕ, List, length, slice_get, Option, Some, None, Bool, true, false, is_some, arith}
use Rattle.std.specs.Option.{option_map}
use Rattle.ld_base.specs.Maybe.{◌>>=◌}
use Rattle.ld_globals.specs.Store.{Key, Store, key_at}
use Rattle.ld_model.specs.Counting.{number_where}
use Rattle.ld_model.specs.Properties.{is_personal}
use Rattle.ld_model.specs.declared.cell.CellName.{CellName}
use Rattle.ld_model.specs.declared.cell.CellName.TheVariants.{Prop, Vis, Member, Chosen, Opened, ActOpened, Started, Mark, Now, Roster}
use Rattle.ld_model.specs.declared.cell.Owner.{Owner}
use Rattle.ld_model.specs.declared.cell.Owner.TheVariants.{Run, Person}
use Rattle.ld_model.specs.declared.property.Property.{Property}
use Rattle.ld_model.specs.declared.unit.Unit.{Unit}
use Rattle.ld_names.specs.Identifiers.{all_differ}
use Rattle.ld_refs.specs.Checks.{IsValid}
use Rattle.ld_expr.specs.Owners.{of_person}
use Rattle.ld_expr.specs.Seen.{property_cell}
use Rattle.ld_roles.specs.Roster.{PersonState, Persons, person_number}
use Rattle.ld_firing.specs.RunSystem.{HaveNamesOfTheirOwn}
use Rattle.ld_firing.proofs.CellsThere.{value_there}
use Rattle.ld_firing.proofs.Named.{held_as}
use Rattle.ld_firing.proofs.Sites.{IsOwner, a_person, the_run}
use Rattle.ld_state.specs.RunCells.{all_cells}
use Rattle.ld_state.proofs.Elements.{IsIn, Stands, none_is_some, some_same, stands_in}
use Rattle.ld_sharing.specs.Changes.{key_of_cell}
use Rattle.ld_sharing.specs.Globals.{cell_of_key, has_uri, store_person}
use Rattle.ld_sharing.specs.Readable.{IsOwnerAmong, is_person}
use Rattle.ld_sharing.specs.StoreView.{Serves}
use Rattle.ld_sharing.proofs.GivingFirsts.{Has, first_named, first_with}
use Rattle.ld_sharing.proofs.KeyCells.{asked_among, key_cell}
use Rattle.ld_sharing.proofs.UrisDiffer.{uris_of}

-- ---- from the cell to the key

module _ (unit : Unit) (persons : Persons) (uris : all_differ (uris_of unit.properties) ≡ true)
    (names : HaveNamesOfTheirOwn persons) where
  first_uri : (n : ℕ) (property : Property) (uri : List ℕ) (personal : Bool)
      → slice_get unit.properties n ≡ Some property → Has uri personal property
      → number_where (has_uri uri personal) unit.properties ≡ Some n
  first_uri n property uri personal at has =
      first_with uri personal 0 unit.properties n property uris at has ∙ ap Some (omega arith)

  first_name : (p : ℕ) (person : PersonState) → slice_get persons p ≡ Some person
      → person_number persons person.name ≡ Some p
  first_name p person at = first_named 0 persons p person names at ∙ ap Some (omega arith)

  of_owner : (n : ℕ) (property : Property) (uri : List ℕ) → slice_get unit.properties n ≡ Some property
      → property.uri ≡ Some uri → (personal : Bool) → is_personal property.kind ≡ personal → (owner : Owner)
      → (person : Option (List ℕ)) → store_person persons personal owner ≡ Some person
      → cell_of_key unit persons uri person ≡ Some (property_cell n owner)
  of_owner n property uri at named false own Run person is =
      subst (λ who. cell_of_key unit persons uri who ≡ Some (property_cell n Run)) (some_same is)
      (ap (option_map (λ m. property_cell m Run)) (first_uri n property uri false at (record { named = named; own = own })))
  of_owner n property uri at named false own (Person p) person is = none_is_some is
  of_owner n property uri at named true own Run person is = none_is_some is
  of_owner n property uri at named true own (Person p) person is = by (slice_get persons p.0) refl is
    where
      by : (found : Option PersonState) → slice_get persons p.0 ≡ found
          → option_map (λ (one : PersonState). Some one.name) found ≡ Some person
          → cell_of_key unit persons uri person ≡ Some (property_cell n (Person p))
      by None there none = none_is_some none
      by (Some one) there some =
          subst (λ who. cell_of_key unit persons uri who ≡ Some (property_cell n (Person p))) (some_same some)
          (ap₂ (λ (found who : Option ℕ). found >>= λ m. who >>= λ q. Some (property_cell m (of_person q)))
          (first_uri n property uri true at (record { named = named; own = own })) (first_name p.0 one there))

  of_property : (n : ℕ) (owner : Owner) (key : Key) → key_of_cell unit persons (property_cell n owner) ≡ Some key
      → cell_of_key unit persons key.uri key.person ≡ Some (property_cell n owner)
  of_property n owner key is = at_number (slice_get unit.properties n) refl is
    where
      for_person : (property : Property) (uri : List ℕ) → slice_get unit.properties n ≡ Some property
          → property.uri ≡ Some uri → (asked : Option (Option (List ℕ)))
          → store_person persons (is_personal property.kind) owner ≡ asked
          → (asked >>= λ person. Some (key_at uri person)) ≡ Some key
          → cell_of_key unit persons key.uri key.person ≡ Some (property_cell n owner)
      for_person property uri at named None asked none = none_is_some none
      for_person property uri at named (Some person) asked some =
          subst (λ (one : Key). cell_of_key unit persons one.uri one.person ≡ Some (property_cell n owner)) (some_same some)
          (of_owner n property uri at named (is_personal property.kind) refl owner person asked)

      with_uri : (property : Property) → slice_get unit.properties n ≡ Some property
          → (o : Option (List ℕ)) → property.uri ≡ o
          → (o >>= λ uri. store_person persons (is_personal property.kind) owner >>= λ person. Some (key_at uri person)) ≡ Some key
          → cell_of_key unit persons key.uri key.person ≡ Some (property_cell n owner)
      with_uri property at None named none = none_is_some none
      with_uri property at (Some uri) named some =
          for_person property uri at named (store_person persons (is_personal property.kind) owner) refl some

      at_number : (found : Option Property) → slice_get unit.properties n ≡ found
          → (found >>= λ property. property.uri >>= λ uri. store_person persons (is_personal property.kind) owner >>= λ person. Some (key_at uri person)) ≡ Some key
          → cell_of_key unit persons key.uri key.person ≡ Some (property_cell n owner)
      at_number None at none = none_is_some none
      at_number (Some property) at some = with_uri property at property.uri refl some

  pub key_tells : (cell : CellName) (key : Key) → key_of_cell unit persons cell ≡ Some key
      → cell_of_key unit persons key.uri key.person ≡ Some cell
  key_tells (Prop p owner) key is = of_property p.0 owner key is
  key_tells (Vis t p) key is = none_is_some is
  key_tells (Member r p) key is = none_is_some is
  key_tells (Chosen t owner) key is = none_is_some is
  key_tells (Opened t owner) key is = none_is_some is
  key_tells (ActOpened t) key is = none_is_some is
  key_tells Started key is = none_is_some is
  key_tells (Mark r owner) key is = none_is_some is
  key_tells Now key is = none_is_some is
  key_tells Roster key is = none_is_some is

-- ---- from the key to the cell

is_owner : (persons : ℕ) (owner : Owner) → IsOwnerAmong persons owner → IsOwner persons (is_person owner) owner
is_owner persons Run among = the_run
is_owner persons (Person p) among = a_person p.0 among

module _ (unit : Unit) (valid : IsValid unit) (store : Store) (serves : Serves store unit) (persons : Persons)
    (uri : List ℕ) (person : Option (List ℕ)) (cell : CellName) (is : cell_of_key unit persons uri person ≡ Some cell) where
  pub cell_tells : key_of_cell unit persons cell ≡ Some (key_at uri person)
  cell_tells =
      let k = key_cell unit valid store serves persons uri person cell is in
      ap (key_of_cell unit persons) k.cell_is
      ∙ ap (λ (found : Option Property). found >>= λ property. property.uri >>= λ u. store_person persons (is_personal property.kind) k.owner >>= λ who. Some (key_at u who)) k.shared.at
      ∙ ap (λ (found : Option (List ℕ)). found >>= λ u. store_person persons (is_personal k.shared.property.kind) k.owner >>= λ who. Some (key_at u who)) k.shared.named
      ∙ ap (λ b. store_person persons b k.owner >>= λ who. Some (key_at uri who)) k.shared.personal_is
      ∙ ap (λ (asked : Option (Option (List ℕ))). asked >>= λ who. Some (key_at uri who)) k.asked

  -- The run has the cell.
  pub key_stands : Stands (all_cells unit (length persons)) cell
  key_stands =
      let k = key_cell unit valid store serves persons uri person cell is in
      stands_in (all_cells unit (length persons)) cell
      (subst (IsIn (all_cells unit (length persons))) (sym k.cell_is)
      (value_there unit (length persons) k.number k.shared.property k.owner k.shared.at (is_person k.owner)
      (held_as k.shared.property.kind ∙ k.shared.personal_is)
      (is_owner (length persons) k.owner (asked_among persons k.owner person k.asked))))

-- The key tells a person exactly where the owner is one.
pub key_asked : (persons : Persons) (person : Option (List ℕ)) (owner : Owner)
    → store_person persons (is_person owner) owner ≡ Some person → is_some person ≡ is_person owner
key_asked persons person Run asked = sym (ap is_some (some_same asked))
key_asked persons person (Person p) asked = by (slice_get persons p.0) asked
  where
    by : (found : Option PersonState) → option_map (λ (one : PersonState). Some one.name) found ≡ Some person
        → is_some person ≡ true
    by None none = none_is_some none
    by (Some one) some = sym (ap is_some (some_same some))
