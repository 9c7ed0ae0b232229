-- Keys of the store that have a value to read.
use Rattle.std.specs.Prelude.{◌≡◌, ◌<◌, ℕ, List, Option, Some, None, Bool, true, false, is_some, slice_get, ⊤}
use Rattle.std.specs.Option.{option_map}
use Rattle.ld_globals.specs.Declarations.{Declaration, suits}
use Rattle.ld_globals.specs.Store.{Key, Store, declared_at}
use Rattle.ld_model.specs.Properties.{is_personal}
use Rattle.ld_model.specs.declared.cell.Owner.{Owner}
use Rattle.ld_model.specs.declared.cell.Owner.TheVariants.{Run, Person}
use Rattle.ld_model.specs.declared.property.Property.{Property}
use Rattle.ld_model.specs.declared.unit.Unit.{Unit}
use Rattle.ld_expr.specs.Owners.{is_global, of_person}
use Rattle.ld_roles.specs.Roster.{Persons, person_number}
use Rattle.ld_state.specs.Beginnings.{stored_for}
use Rattle.ld_state.specs.GlobalValues.{GlobalValues}
use Rattle.ld_state.specs.RunCells.{stored_value}
use Rattle.ld_value.specs.Datum.{Datum}
use Rattle.ld_sharing.specs.Fitting.{fits_if_any}
use Rattle.ld_sharing.specs.StoreView.{declaration_by}

-- The uri is declared, and a person is given as the kind wants.
pub record IsReadable (store : Store) (key : Key) : Type 0 where
  pub declaration : Declaration
  pub declared : declared_at store key.uri ≡ Some declaration
  pub suited : suits declaration.kind (is_some key.person) ≡ true

-- The property of this number is global and has this uri, which the store declares with its contents; each
-- person has a value of it, or there is one for all.
pub record IsShared (unit : Unit) (store : Store) (n : ℕ) (uri : List ℕ) (personal : Bool) : Type 0 where
  pub property : Property
  pub at : slice_get unit.properties n ≡ Some property
  pub named : property.uri ≡ Some uri
  pub global : is_global property.kind ≡ true
  pub personal_is : is_personal property.kind ≡ personal
  pub declared : declared_at store uri ≡ Some (declaration_by property)

-- The owner is a person.
abbrev pub is_person : Owner → Bool
is_person Run = false
is_person (Person p) = true

-- The owner is the run, or one of this many persons.
abbrev pub IsOwnerAmong : ℕ → Owner → Type 0
IsOwnerAmong persons Run = ⊤
IsOwnerAmong persons (Person p) = p.0 < persons

-- The name of the person that the owner is.
abbrev pub name_of : Persons → Owner → Option (List ℕ)
name_of persons Run = None
name_of persons (Person p) = option_map (λ person. person.name) (slice_get persons p.0)

-- The run where no name is given, or the person of the name, if there is one.
abbrev pub owner_named : Persons → Option (List ℕ) → Option Owner
owner_named persons None = Some Run
owner_named persons (Some name) = option_map of_person (person_number persons name)

-- What the store holds of the property of this number, for the person of this name, is the value.
abbrev pub IsStoredOf : Unit → GlobalValues → Option (List ℕ) → ℕ → Option Datum → Type 0
IsStoredOf unit store person n value =
    slice_get (stored_for store person unit.properties) n ≡ Some value

-- It fits, if the property is a global one.
abbrev pub FitsStored : Unit → GlobalValues → Option (List ℕ) → ℕ → Type 0
FitsStored unit store person n =
    (property : Property) → slice_get unit.properties n ≡ Some property → is_global property.kind ≡ true
    → fits_if_any property (stored_value store person property) ≡ true
