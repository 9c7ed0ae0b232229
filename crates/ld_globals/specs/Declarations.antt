-- What a declaration of a global property means.
use Rattle.std.specs.Prelude.{Bool, true, not, Option, Some, None, option_map}
use Rattle.ld_value.specs.declared.kind.Kind.{Kind}
use Rattle.ld_value.specs.Datum.{Datum, datum_of}
use Rattle.ld_value.specs.Values.{Restrictions, restrictions_of, fits_in}
use Rattle.ld_globals.specs.declared.declared.GlobalKind.{GlobalKind}
use Rattle.ld_globals.specs.declared.declared.GlobalKind.TheVariants.{Glob, GlobPers}
use Rattle.ld_globals.specs.declared.declared.Declared.{Declared}

-- The kind, the datatype, the restrictions and the initial value, each by what it means.
pub record Declaration : Type 0 where
  pub kind : GlobalKind
  pub datatype : Kind
  pub limits : Restrictions
  pub initial : Option Datum

-- What the program's declaration means.
abbrev pub declaration_of : Declared → Declaration
declaration_of d = record { kind = d.kind; datatype = d.datatype; limits = restrictions_of d.limits; initial = option_map datum_of d.initial }

-- A key of the kind has a person exactly where each person has a value.
abbrev pub suits : GlobalKind → Bool → Bool
suits Glob has_person = not has_person
suits GlobPers has_person = has_person

-- The value, where there is one, is of the datatype and meets the restrictions.
abbrev pub fits_declared : Declaration → Option Datum → Bool
fits_declared d None = true
fits_declared d (Some value) = fits_in d.datatype d.limits value
