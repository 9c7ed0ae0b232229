-- Who has values of a property within a run.
use Rattle.std.specs.Prelude.{Bool, true, false}
use Rattle.ld_model.specs.declared.property.Property.{Property}
use Rattle.ld_model.specs.declared.property.PropertyKind.{PropertyKind}
use Rattle.ld_model.specs.declared.property.PropertyKind.TheVariants.{Loc, LocPers, LocRole, GlobPers, Glob}
use Rattle.ld_model.specs.declared.unit.Unit.{Unit}
use Rattle.ld_names.specs.declared.holder.Holder.{Holder}
use Rattle.ld_names.specs.declared.holder.Holder.TheVariants.{Run as HeldByRun, Persons as HeldByPersons}

-- Who has values of a property of the kind: the run has one, or each person has one.
abbrev pub holder_by_kind : PropertyKind → Holder
holder_by_kind Loc = HeldByRun
holder_by_kind LocPers = HeldByPersons
holder_by_kind LocRole = HeldByRun
holder_by_kind Glob = HeldByRun
holder_by_kind GlobPers = HeldByPersons

-- Who has values of the property of the unit.
abbrev pub holder_of : Unit → Property → Holder
holder_of unit property = holder_by_kind property.kind

-- The run has a value.
abbrev pub is_held_by_run : Holder → Bool
is_held_by_run HeldByRun = true
is_held_by_run HeldByPersons = false

-- Each person has a value.
abbrev pub is_held_by_persons : Holder → Bool
is_held_by_persons HeldByRun = false
is_held_by_persons HeldByPersons = true
