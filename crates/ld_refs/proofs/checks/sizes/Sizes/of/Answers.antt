use Rattle.std.proofs.Common.{◌≡◌, ◌∙◌, map, min, refl}
use Rattle.ld_refs.specs.Extents.{activity_sizes, environment_sizes, structure_sizes, own_environment_size, own_structure_size, first_sizes, leaf_sizes}
use Rattle.ld_refs.specs.Reaching.{environment_graph, structure_graph}
use Rattle.ld_refs.proofs.SizeSums.{activities_alike, structures_alike}
use Rattle.ld_cycles.proofs.Rounds.{expanded_alike}
use Rattle.ld_refs.proofs.checks.sizes.Sizes.of.Goals as goal

pub returns : goal.returns
returns c =
    let unit = c.args.unit.now in
    let names = c.args.names.now in
    let own = rw c.as_slice.ensures at c.in_ok-own.ensures in
    let expanded = rw (c.as_slice-2.ensures.value, own, c.as_slice-3.ensures.value, c.requires.environments) at c.in_ok-expanded_sizes.ensures in
    let environments : c.in_ok-expanded_sizes.field-0.items ≡ map (min 1000000) (environment_sizes unit names) = expanded ∙ expanded_alike (map own_environment_size unit.environments) (environment_graph unit names) in
    let sized = rw (c.as_slice-4.ensures, environments, c.new.ensures.items, c.new-2.ensures.items) at c.in_ok-sizes.ensures in
    let activities : c.in_ok-sizes.field-0.items ≡ map (min 1000000) (activity_sizes unit names) = sized ∙ activities_alike (first_sizes unit names) names unit.activities in
    let alone = rw (c.as_slice-5.ensures, environments, activities, c.new-2.ensures.items) at c.in_ok-own-2.ensures in
    let structure = alone ∙ structures_alike (leaf_sizes unit names) names unit.structures in
    let all = rw (c.as_slice-6.ensures.value, structure, c.as_slice-7.ensures.value, c.requires.structures) at c.in_ok-sizes-2.ensures in
    let structures : c.in_ok-sizes-2.field-0.items ≡ map (min 1000000) (structure_sizes unit names) = all ∙ expanded_alike (map (own_structure_size (leaf_sizes unit names) names) unit.structures) (structure_graph unit names) in
    rw (environments, activities, structures) refl
