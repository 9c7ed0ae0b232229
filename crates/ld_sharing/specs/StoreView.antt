-- What a run sees of the store, and which units a store serves.
use Rattle.std.specs.Prelude.{◌≡◌, ℕ, List, Some, Bool, ◌&&◌, filter, length}
use Rattle.std.specs.List.{AllByRecursion}
use Rattle.ld_model.specs.Properties.{initial_of, is_personal, limits_by}
use Rattle.ld_model.specs.declared.property.Property.{Property}
use Rattle.ld_model.specs.declared.property.PropertyKind.{PropertyKind}
use Rattle.ld_model.specs.declared.property.PropertyKind.TheVariants as kind
use Rattle.ld_model.specs.declared.unit.Unit.{Unit}
use Rattle.ld_expr.specs.Owners.{is_global}
use Rattle.ld_value.specs.Datum.{same_truth}
use Rattle.ld_globals.specs.Declarations.{Declaration}
use Rattle.ld_globals.specs.Store.{Store, declared_at, key_at, value_at}
use Rattle.ld_globals.specs.declared.declared.GlobalKind.{GlobalKind}
use Rattle.ld_globals.specs.declared.declared.GlobalKind.TheVariants.{Glob, GlobPers}
use Rattle.ld_state.specs.GlobalValues.{GlobalValues}

-- The value of each uri, of a person where each person has one.
abbrev pub values_of : Store → GlobalValues
values_of store = λ uri person. value_at store (key_at uri person)

-- Whether each person has a value; only properties that are global have a uri.
abbrev pub kind_declared : PropertyKind → GlobalKind
kind_declared kind.LocPers = GlobPers
kind_declared kind.GlobPers = GlobPers
kind_declared kind.Loc = Glob
kind_declared kind.LocRole = Glob
kind_declared kind.Glob = Glob

-- How the store declares the uri of the property.
abbrev pub declaration_by : Property → Declaration
declaration_by property = record {
  kind = kind_declared property.kind;
  datatype = property.datatype;
  limits = limits_by property property.restrictions;
  initial = initial_of property;
}

-- The store declares the uri of the property, if it has one, with its contents.
abbrev pub IsDeclared : Store → Property → Type 0
IsDeclared store property =
    (uri : List ℕ) → property.uri ≡ Some uri → declared_at store uri ≡ Some (declaration_by property)

-- The store declares the uri of each of the unit's properties that has one, with its contents.
abbrev pub Serves : Store → Unit → Type 0
Serves store unit = AllByRecursion (IsDeclared store) unit.properties

-- The property is global, and each person has a value of it, or there is one for all.
abbrev pub is_shared : Bool → Property → Bool
is_shared personal property = is_global property.kind && same_truth (is_personal property.kind) personal

-- How many such properties the unit has.
abbrev pub shared_count : Unit → Bool → ℕ
shared_count unit personal = length (filter (is_shared personal) unit.properties)
