use Rattle.std.proofs.Common.{◌≡◌, ◌++◌, min, map, drop}
use Rattle.ld_refs.specs.Extents.{activity_size}
use Rattle.ld_refs.specs.SizeView.{sizes_by}
use Rattle.ld_refs.proofs.checks.sizes.Sizes.activity_sizes.Given as goal

abbrev pub invariant-loop-activity : goal.invariant-loop-activity
invariant-loop-activity l = l.sizes.items ++ map (min 1000000) (map (activity_size (sizes_by l.self) l.names) (drop l.activity-index l.activities)) ≡ map (min 1000000) (map (activity_size (sizes_by l.self) l.names) l.activities)
