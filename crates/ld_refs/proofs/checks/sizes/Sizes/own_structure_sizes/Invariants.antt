use Rattle.std.proofs.Common.{◌≡◌, ◌++◌, min, map, drop}
use Rattle.ld_refs.specs.Extents.{own_structure_size}
use Rattle.ld_refs.specs.SizeView.{sizes_by}
use Rattle.ld_refs.proofs.checks.sizes.Sizes.own_structure_sizes.Given as goal

abbrev pub invariant-loop-structure : goal.invariant-loop-structure
invariant-loop-structure l = l.own.items ++ map (min 1000000) (map (own_structure_size (sizes_by l.self) l.names) (drop l.structure-index l.structures)) ≡ map (min 1000000) (map (own_structure_size (sizes_by l.self) l.names) l.structures)
