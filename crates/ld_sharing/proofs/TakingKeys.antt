-- Keys of the store that a unit's global properties have.
use Rattle.std.proofs.Common.{◌≡◌, refl, sym, ap, subst, ◌∙◌, ℕ, ◌<◌, List, length, slice_get, Option, None, Some, Bool, true, not, ◌||◌, is_some, [], ◌∷◌, zero, suc, arith, get_or}
use Rattle.std.proofs.lemmas.Option.{slice_get-get_or, slice_get-map}
use Rattle.std.specs.Option.{option_and_then, option_map}
use Rattle.ld_base.specs.Maybe.{◌>>=◌, provided}
use Rattle.ld_globals.specs.Declarations.{Declaration, fits_declared, suits}
use Rattle.ld_globals.specs.Store.{IsWritable, Store, key_at, value_at}
use Rattle.ld_globals.proofs.Looked.{all-there}
use Rattle.ld_value.specs.Datum.{Datum}
use Rattle.ld_model.specs.Properties.{is_personal}
use Rattle.ld_model.specs.declared.cell.Owner.{Owner}
use Rattle.ld_model.specs.declared.cell.Owner.TheVariants.{Run, Person}
use Rattle.ld_model.specs.declared.property.Property.{Property}
use Rattle.ld_model.specs.declared.property.PropertyKind.{PropertyKind}
use Rattle.ld_model.specs.declared.property.PropertyKind.TheVariants.{Loc, LocPers, LocRole, GlobPers, Glob}
use Rattle.ld_model.specs.declared.unit.Unit.{Unit}
use Rattle.ld_refs.specs.Checks.{IsValid}
use Rattle.ld_expr.specs.Lookup.{is_some_and}
use Rattle.ld_expr.specs.Owners.{fits_property, is_global}
use Rattle.ld_expr.specs.Seen.{property_cell}
use Rattle.ld_roles.specs.Kept.{PersonRow, person_of, persons_of}
use Rattle.ld_roles.specs.Roster.{PersonState, Persons}
use Rattle.ld_rules.specs.PreparedView.{uri_at}
use Rattle.ld_state.specs.StateView.{IsStateOf, StateView, has_cell}
use Rattle.ld_state.proofs.Elements.{some_same}
use Rattle.ld_firing.proofs.CellsThere.{value_there}
use Rattle.ld_firing.proofs.Named.{held_as}
use Rattle.ld_firing.proofs.Sites.{IsOwner, a_person, the_run}
use Rattle.ld_firing.proofs.SlotsThere.{cell_there, slot_there}
use Rattle.ld_sharing.specs.Fitting.{fits_cell, fits_if_any}
use Rattle.ld_sharing.specs.Globals.{store_person, store_says}
use Rattle.ld_sharing.specs.Readable.{IsOwnerAmong, IsReadable, IsShared, is_person, name_of}
use Rattle.ld_sharing.specs.StoreView.{IsDeclared, Serves, declaration_by, kind_declared, values_of}
use Rattle.ld_sharing.proofs.LocalUris.{named_is_global}

-- A property that has a uri is one that the store shares.
pub shared_at : (unit : Unit) (store : Store) (n : ℕ) (uri : List ℕ) → IsValid unit → Serves store unit
    → uri_at unit.properties n ≡ Some uri → (property : Property) → slice_get unit.properties n ≡ Some property
    → IsShared unit store n uri (is_personal property.kind)
shared_at unit store n uri valid serves named property at =
    let own : property.uri ≡ Some uri = ap (option_and_then (λ (one : Property). one.uri)) (sym at) ∙ named in
    record {
      property = property;
      at = at;
      named = own;
      global = named_is_global unit valid n property at uri own;
      personal_is = refl;
      declared = all-there (IsDeclared store) unit.properties n property serves at uri own;
    }

-- The property that is found in the unit's list.
pub property_here : (unit other : Unit) (properties : List Property) (n : ℕ) (property : Property) → other ≡ unit
    → properties ≡ other.properties → n < length unit.properties
    → slice_get unit.properties n ≡ Some (get_or properties n property)
property_here unit other properties n property same listed within =
    slice_get-get_or unit.properties n property within
    ∙ ap (λ (list : List Property). Some (get_or list n property))
    (sym (listed ∙ ap (λ (one : Unit). one.properties) same))

-- The same, of the property that is found there.
pub shared_here : (unit other : Unit) (properties : List Property) (store : Store) (n : ℕ) (uri : List ℕ) (property : Property)
    (personal : Bool) → IsValid unit → Serves store unit → uri_at unit.properties n ≡ Some uri → other ≡ unit
    → properties ≡ other.properties → n < length unit.properties → is_personal (get_or properties n property).kind ≡ personal
    → IsShared unit store n uri personal
shared_here unit other properties store n uri property personal valid serves named same listed within is =
    subst (IsShared unit store n uri) is
    (shared_at unit store n uri valid serves named (get_or properties n property)
    (property_here unit other properties n property same listed within))

-- ---- reading

kind_suits : (kind : PropertyKind) → suits (kind_declared kind) (is_personal kind) ≡ true
kind_suits Loc = refl
kind_suits LocPers = refl
kind_suits LocRole = refl
kind_suits GlobPers = refl
kind_suits Glob = refl

module _ (unit : Unit) (store : Store) (n : ℕ) (uri : List ℕ) (personal : Bool)
    (shared : IsShared unit store n uri personal) where
  pub key_readable : (person : Option (List ℕ)) → is_some person ≡ personal → IsReadable store (key_at uri person)
  key_readable person given = record {
    declaration = declaration_by shared.property;
    declared = shared.declared;
    suited = ap (suits (kind_declared shared.property.kind)) (given ∙ sym shared.personal_is) ∙ kind_suits shared.property.kind;
  }

  -- A value that the key may be given fits the property.
  pub key_fits : (person : Option (List ℕ)) (value : Option Datum) → IsWritable store (key_at uri person) value
      → fits_if_any shared.property value ≡ true
  key_fits person None writable = refl
  key_fits person (Some value) writable =
      ap (λ (d : Declaration). fits_declared d (Some value)) (some_same (sym shared.declared ∙ writable.declared))
      ∙ writable.fitting

  pub cell_fits : (owner : Owner) (person : Option (List ℕ)) (value : Option Datum)
      → IsWritable store (key_at uri person) value → fits_cell unit (property_cell n owner) value ≡ true
  cell_fits owner person None writable = refl
  cell_fits owner person (Some value) writable =
      ap (is_some_and (λ property. not (is_global property.kind) || fits_property property value)) shared.at
      ∙ ap (λ b. not b || fits_property shared.property value) shared.global
      ∙ key_fits person (Some value) writable

  -- What the store says of the property's cells.
  pub said_of : (persons : Persons) (owner : Owner) → store_says unit (values_of store) persons (property_cell n owner)
      ≡ (store_person persons personal owner >>= λ person. Some (value_at store (key_at uri person)))
  said_of persons owner =
      ap (λ (found : Option Property). found >>= λ property. (provided (is_global property.kind) property >>= λ global. global.uri) >>= λ u. store_person persons (is_personal property.kind) owner >>= λ person. Some (values_of store u person)) shared.at
      ∙ ap (λ b. (provided b shared.property >>= λ global. global.uri) >>= λ u. store_person persons (is_personal shared.property.kind) owner >>= λ person. Some (values_of store u person)) shared.global
      ∙ ap (λ (found : Option (List ℕ)). found >>= λ u. store_person persons (is_personal shared.property.kind) owner >>= λ person. Some (values_of store u person)) shared.named
      ∙ ap (λ b. store_person persons b owner >>= λ person. Some (values_of store uri person)) shared.personal_is

-- ---- owners

pub found_there : {A : Type 0} → (xs : List A) (n : ℕ) → n < length xs → (x : A) × (slice_get xs n ≡ Some x)
found_there [] n within = absurd (omega (arith, within))
found_there (x ∷ xs) zero within = (x, refl)
found_there (x ∷ xs) (suc n) within = found_there xs n (omega (arith, within))

name_there : (rows : List PersonRow) (p : ℕ) → p < length rows
    → (person : PersonState) × (slice_get (persons_of rows) p ≡ Some person)
name_there rows p within =
    let found = found_there rows p within in
    (person_of found.0, slice_get-map person_of rows p ∙ ap (option_map person_of) found.1)

-- An owner whom a run has is a person exactly where a name is given.
pub name_given : (rows : List PersonRow) (owner : Owner) → IsOwnerAmong (length rows) owner
    → is_some (name_of (persons_of rows) owner) ≡ is_person owner
name_given rows Run among = refl
name_given rows (Person p) among =
    ap (λ (found : Option PersonState). is_some (option_map (λ person. person.name) found)) (name_there rows p.0 among).1

-- The store is asked for the owner by that name.
pub asked_for : (rows : List PersonRow) (owner : Owner) → IsOwnerAmong (length rows) owner
    → store_person (persons_of rows) (is_person owner) owner ≡ Some (name_of (persons_of rows) owner)
asked_for rows Run among = refl
asked_for rows (Person p) among =
    let is = (name_there rows p.0 among).1 in
    ap (option_map (λ (person : PersonState). Some person.name)) is
    ∙ ap Some (sym (ap (option_map (λ (person : PersonState). person.name)) is))

-- What the roster says of a person's name.
pub name_is : (rows : List PersonRow) (p : ℕ) (name : List ℕ) → Some name ≡ option_map (λ row. row.name) (slice_get rows p)
    → Some name ≡ option_map (λ person. person.name) (slice_get (persons_of rows) p)
name_is rows p name is =
    is ∙ by (slice_get rows p) ∙ ap (option_map (λ (person : PersonState). person.name)) (sym (slice_get-map person_of rows p))
  where
    by : (found : Option PersonRow) → option_map (λ row. row.name) found
        ≡ option_map (λ person. person.name) (option_map person_of found)
    by None = refl
    by (Some row) = refl

module _ (unit : Unit) (store : Store) (n : ℕ) (uri : List ℕ) (owner : Owner)
    (shared : IsShared unit store n uri (is_person owner)) where
  -- What the store says of the owner's cell.
  pub said_for : (rows : List PersonRow) (name : Option (List ℕ)) → IsOwnerAmong (length rows) owner
      → name ≡ name_of (persons_of rows) owner
      → store_says unit (values_of store) (persons_of rows) (property_cell n owner) ≡ Some (value_at store (key_at uri name))
  said_for rows name among named =
      said_of unit store n uri (is_person owner) shared (persons_of rows) owner
      ∙ ap (λ (asked : Option (Option (List ℕ))). asked >>= λ person. Some (value_at store (key_at uri person))) (asked_for rows owner among)
      ∙ ap (λ person. Some (value_at store (key_at uri person))) (sym named)

  -- The owner's key can be read.
  pub readable_for : (rows : List PersonRow) (name : Option (List ℕ)) → IsOwnerAmong (length rows) owner
      → name ≡ name_of (persons_of rows) owner → IsReadable store (key_at uri name)
  readable_for rows name among named =
      key_readable unit store n uri (is_person owner) shared name (ap is_some named ∙ name_given rows owner among)

  -- The state has the cell.
  pub value_cell : (s : StateView) → IsStateOf unit s → IsOwnerAmong (length s.rows) owner
      → has_cell s (property_cell n owner) ≡ true
  value_cell s own among =
      cell_there unit s own (property_cell n owner)
      (slot_there unit (length s.rows) (property_cell n owner)
      (value_there unit (length s.rows) n shared.property owner shared.at (is_person owner) (held_as shared.property.kind ∙ shared.personal_is)
      (owned (length s.rows) owner among)))
    where
      owned : (persons : ℕ) (one : Owner) → IsOwnerAmong persons one → IsOwner persons (is_person one) one
      owned persons Run among = the_run
      owned persons (Person p) among = a_person p.0 among
