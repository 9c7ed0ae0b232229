-- The run's cell for a key of the store.
use Rattle.std.proofs.Common.{◌≡◌, refl, sym, ap, subst, ◌∙◌, ℕ, List, length, slice_get, Option, Some, None, Bool, true, false, is_some, arith}
use Rattle.std.proofs.lemmas.Option.{slice_get_within}
use Rattle.std.proofs.lemmas.Slice.Eq.{bytes_eq-Decides}
use Rattle.std.specs.Option.{option_and_then, option_map}
use Rattle.std.specs.Str.{bytes_eq}
use Rattle.ld_base.specs.Maybe.{◌>>=◌}
use Rattle.ld_globals.specs.Store.{Store, declared_at, key_at, value_at}
use Rattle.ld_globals.proofs.Looked.{all-there}
use Rattle.ld_model.specs.Counting.{number_where}
use Rattle.ld_model.specs.declared.cell.CellName.{CellName}
use Rattle.ld_model.specs.declared.cell.CellName.TheVariants.{Prop}
use Rattle.ld_model.specs.declared.cell.Owner.{Owner}
use Rattle.ld_model.specs.declared.cell.Owner.TheVariants.{Run, Person}
use Rattle.ld_model.specs.declared.property.Property.{Property}
use Rattle.ld_model.specs.declared.unit.Unit.{Unit}
use Rattle.ld_refs.specs.Checks.{IsValid}
use Rattle.ld_expr.specs.Owners.{of_person}
use Rattle.ld_expr.specs.Seen.{property_cell}
use Rattle.ld_roles.specs.Roster.{PersonState, Persons, person_number}
use Rattle.ld_firing.proofs.Found.{found_by}
use Rattle.ld_state.proofs.Elements.{none_is_some, some_same}
use Rattle.ld_sharing.specs.Globals.{cell_of_key, has_uri, store_person, store_says}
use Rattle.ld_sharing.specs.Readable.{IsOwnerAmong, IsShared, is_person, owner_named}
use Rattle.ld_sharing.specs.StoreView.{IsDeclared, Serves, values_of}
use Rattle.ld_sharing.proofs.GivingFirsts.{has_tells}
use Rattle.ld_sharing.proofs.TakingKeys.{said_of, shared_at}

-- What is known of the run's cell for a key: it is one of a property that the store shares, and of an owner whose
-- value the store has for the key's person.
pub record IsKeyCell (unit : Unit) (store : Store) (persons : Persons) (uri : List ℕ) (person : Option (List ℕ)) (cell : CellName) : Type 0 where
  pub number : ℕ
  pub owner : Owner
  pub cell_is : cell ≡ property_cell number owner
  pub shared : IsShared unit store number uri (is_person owner)
  pub asked : store_person persons (is_person owner) owner ≡ Some person

-- The cell of the property that has the uri, and of the owner whom the key's person names.
pub found_cell : (unit : Unit) (persons : Persons) (uri : List ℕ) (person : Option (List ℕ))
    → (number_where (has_uri uri (is_some person)) unit.properties >>= λ n. owner_named persons person >>= λ owner. Some (property_cell n owner))
    ≡ cell_of_key unit persons uri person
found_cell unit persons uri None = by (number_where (has_uri uri false) unit.properties)
  where
    by : (found : Option ℕ) → (found >>= λ n. Some (property_cell n Run)) ≡ option_map (λ n. property_cell n Run) found
    by None = refl
    by (Some n) = refl
found_cell unit persons uri (Some name) = by (number_where (has_uri uri true) unit.properties) (person_number persons name)
  where
    by : (found who : Option ℕ) → (found >>= λ n. option_map of_person who >>= λ owner. Some (property_cell n owner))
        ≡ (found >>= λ n. who >>= λ p. Some (property_cell n (of_person p)))
    by None who = refl
    by (Some n) None = refl
    by (Some n) (Some p) = refl

module _ (unit : Unit) (valid : IsValid unit) (store : Store) (serves : Serves store unit) (persons : Persons) where
  -- The property of this number is shared, if it has the uri.
  shared_with : (uri : List ℕ) (personal : Bool) (n : ℕ) (property : Property) → slice_get unit.properties n ≡ Some property
      → has_uri uri personal property ≡ true → IsShared unit store n uri personal
  shared_with uri personal n property at is =
      let has = has_tells uri personal property is in
      let shared = shared_at unit store n uri valid serves
      (ap (option_and_then (λ (one : Property). one.uri)) at ∙ has.named) property at in
      record {
        property = shared.property;
        at = shared.at;
        named = shared.named;
        global = shared.global;
        personal_is = shared.personal_is ∙ has.own;
        declared = shared.declared;
      }

  pub key_cell : (uri : List ℕ) (person : Option (List ℕ)) (cell : CellName) → cell_of_key unit persons uri person ≡ Some cell
      → IsKeyCell unit store persons uri person cell
  key_cell uri None cell is = by (number_where (has_uri uri false) unit.properties) refl is
    where
      by : (found : Option ℕ) → number_where (has_uri uri false) unit.properties ≡ found
          → option_map (λ n. property_cell n Run) found ≡ Some cell → IsKeyCell unit store persons uri None cell
      by None none is = none_is_some is
      by (Some n) some is =
          let at = found_by (has_uri uri false) unit.properties 0 n some in
          let number : n ≡ at.number = omega (arith, at.sum) in
          record {
            number = n;
            owner = Run;
            cell_is = sym (some_same is);
            shared = shared_with uri false n at.element (ap (slice_get unit.properties) number ∙ at.at) at.passes;
            asked = refl;
          }
  key_cell uri (Some name) cell is = by (number_where (has_uri uri true) unit.properties) refl (person_number persons name) refl is
    where
      by : (found : Option ℕ) → number_where (has_uri uri true) unit.properties ≡ found
          → (who : Option ℕ) → person_number persons name ≡ who
          → (found >>= λ n. who >>= λ p. Some (property_cell n (of_person p))) ≡ Some cell
          → IsKeyCell unit store persons uri (Some name) cell
      by None none who he is = none_is_some is
      by (Some n) some None he is = none_is_some is
      by (Some n) some (Some p) he is =
          let at = found_by (has_uri uri true) unit.properties 0 n some in
          let number : n ≡ at.number = omega (arith, at.sum) in
          let him = found_by (λ (one : PersonState). bytes_eq name one.name) persons 0 p he in
          let place : p ≡ him.number = omega (arith, him.sum) in
          let named : him.element.name ≡ name = sym ((bytes_eq-Decides name him.element.name).0 him.passes) in
          record {
            number = n;
            owner = of_person p;
            cell_is = sym (some_same is);
            shared = shared_with uri true n at.element (ap (slice_get unit.properties) number ∙ at.at) at.passes;
            asked = ap (option_map (λ (person : PersonState). Some person.name)) (ap (slice_get persons) place ∙ him.at)
                ∙ ap (λ (x : List ℕ). Some (Some x)) named;
          }

  -- What the store says of it is the key's value.
  pub key_said : (uri : List ℕ) (person : Option (List ℕ)) (cell : CellName) → cell_of_key unit persons uri person ≡ Some cell
      → store_says unit (values_of store) persons cell ≡ Some (value_at store (key_at uri person))
  key_said uri person cell is =
      let k = key_cell uri person cell is in
      ap (store_says unit (values_of store) persons) k.cell_is
      ∙ said_of unit store k.number uri (is_person k.owner) k.shared persons k.owner
      ∙ ap (λ (asked : Option (Option (List ℕ))). asked >>= λ one. Some (value_at store (key_at uri one))) k.asked

-- An owner whose value the store has is the run or one of the persons.
pub asked_among : (persons : Persons) (owner : Owner) (person : Option (List ℕ))
    → store_person persons (is_person owner) owner ≡ Some person → IsOwnerAmong (length persons) owner
asked_among persons Run person asked = tt
asked_among persons (Person p) person asked = by (slice_get persons p.0) refl asked
  where
    by : (found : Option PersonState) → slice_get persons p.0 ≡ found
        → option_map (λ (one : PersonState). Some one.name) found ≡ Some person → IsOwnerAmong (length persons) (Person p)
    by None at is = none_is_some is
    by (Some one) at is = slice_get_within persons p.0 one at

-- The uri of a key for which the run has a cell is declared.
module _ (unit : Unit) (store : Store) (serves : Serves store unit) (persons : Persons) (uri : List ℕ) where
  declared_with : (personal : Bool) (n : ℕ) → number_where (has_uri uri personal) unit.properties ≡ Some n
      → is_some (declared_at store uri) ≡ true
  declared_with personal n found =
      let at = found_by (has_uri uri personal) unit.properties 0 n found in
      let has = has_tells uri personal at.element at.passes in
      ap is_some (all-there (IsDeclared store) unit.properties at.number at.element serves at.at uri has.named)

  pub key_declared : (person : Option (List ℕ)) (cell : CellName) → cell_of_key unit persons uri person ≡ Some cell
      → is_some (declared_at store uri) ≡ true
  key_declared None cell is = by (number_where (has_uri uri false) unit.properties) refl is
    where
      by : (found : Option ℕ) → number_where (has_uri uri false) unit.properties ≡ found
          → option_map (λ n. property_cell n Run) found ≡ Some cell → is_some (declared_at store uri) ≡ true
      by None none is = none_is_some is
      by (Some n) some is = declared_with false n some
  key_declared (Some name) cell is = by (number_where (has_uri uri true) unit.properties) refl is
    where
      by : (found : Option ℕ) → number_where (has_uri uri true) unit.properties ≡ found
          → (found >>= λ n. person_number persons name >>= λ p. Some (property_cell n (of_person p))) ≡ Some cell
          → is_some (declared_at store uri) ≡ true
      by None none is = none_is_some is
      by (Some n) some is = declared_with true n some

-- ---- a property and an owner that were found

abbrev number_in : CellName → ℕ
number_in (Prop p owner) = p.0
number_in _ = 0

abbrev owner_in : CellName → Owner
owner_in (Prop p owner) = owner
owner_in _ = Run

module _ (unit : Unit) (valid : IsValid unit) (store : Store) (serves : Serves store unit) (persons : Persons) (uri : List ℕ)
    (person : Option (List ℕ)) (n : ℕ) (owner : Owner) (found : cell_of_key unit persons uri person ≡ Some (property_cell n owner)) where
  pub shared_found : IsShared unit store n uri (is_person owner)
  shared_found =
      let k = key_cell unit valid store serves persons uri person (property_cell n owner) found in
      subst (λ m. IsShared unit store m uri (is_person owner)) (sym (ap number_in k.cell_is))
      (subst (λ one. IsShared unit store k.number uri (is_person one)) (sym (ap owner_in k.cell_is)) k.shared)

  pub among_found : IsOwnerAmong (length persons) owner
  among_found =
      let k = key_cell unit valid store serves persons uri person (property_cell n owner) found in
      subst (IsOwnerAmong (length persons)) (sym (ap owner_in k.cell_is)) (asked_among persons k.owner person k.asked)
