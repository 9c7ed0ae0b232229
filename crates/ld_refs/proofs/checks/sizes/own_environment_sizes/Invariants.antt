use Rattle.std.proofs.Common.{◌≡◌, ◌++◌, min, map, drop}
use Rattle.ld_refs.specs.Extents.{own_environment_size}
use Rattle.ld_refs.proofs.checks.sizes.own_environment_sizes.Given as goal

abbrev pub invariant-loop-environment : goal.invariant-loop-environment
invariant-loop-environment l = l.own.items ++ map (min 1000000) (map own_environment_size (drop l.environment-index l.environments)) ≡ map (min 1000000) (map own_environment_size l.environments)
