-- What the program's sizes stand for.
use Rattle.std.specs.Prelude.{map, min}
use Rattle.ld_refs.specs.declared.checks.sizes.Sizes.{Sizes as CodeSizes}
use Rattle.ld_refs.specs.Extents.{Sizes}

-- The sizes that stand in the program's three lists, each by its number.
abbrev pub sizes_by : CodeSizes → Sizes
sizes_by sizes = record { environments = sizes.environments.items; activities = sizes.activities.items; structures = sizes.structures.items }

-- Each size, or 1,000,000 where that is less.
abbrev pub capped : Sizes → Sizes
capped sizes = record {
  environments = map (min 1000000) sizes.environments;
  activities = map (min 1000000) sizes.activities;
  structures = map (min 1000000) sizes.structures;
}
