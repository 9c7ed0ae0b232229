-- What a command names, found in its unit.
use Rattle.std.specs.Prelude.{ℕ, List, Option, Some, slice_get}
use Rattle.ld_base.specs.Maybe.{◌>>=◌}
use Rattle.ld_model.specs.declared.activity.Activity.{Activity}
use Rattle.ld_model.specs.declared.property.Property.{Property}
use Rattle.ld_model.specs.declared.unit.Unit.{Unit}
use Rattle.ld_names.specs.Names.{thing_number}
use Rattle.ld_expr.specs.Lookup.{activity_at, property_number, thing_at}

-- An activity, and its number among the things of the unit.
pub record FoundActivity : Type 0 where
  pub number : ℕ
  pub activity : Activity

-- The activity, with this number.
abbrev pub numbered_activity : ℕ → Activity → FoundActivity
numbered_activity number activity = record { number = number; activity = activity }

-- The activity that the identifier names, if it names one.
abbrev pub activity_found : Unit → List ℕ → Option FoundActivity
activity_found unit id = do
  number ← thing_number unit id
  thing ← thing_at unit number
  activity ← activity_at unit thing.place
  Some (numbered_activity number activity)

-- A property, and its number among the properties of the unit.
pub record FoundProperty : Type 0 where
  pub number : ℕ
  pub property : Property

-- The property, with this number.
abbrev pub numbered_property : ℕ → Property → FoundProperty
numbered_property number property = record { number = number; property = property }

-- The property that the identifier names, if it names one.
abbrev pub property_found : Unit → List ℕ → Option FoundProperty
property_found unit id = do
  number ← property_number unit id
  property ← slice_get unit.properties number
  Some (numbered_property number property)
