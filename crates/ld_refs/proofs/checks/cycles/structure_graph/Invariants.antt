use Rattle.std.proofs.Common.{◌≡◌, ◌++◌, map, drop}
use Rattle.ld_refs.specs.declared.checks.cycles.Nodes.TheVariants.{Structures}
use Rattle.ld_refs.specs.Edges.{edges_of}
use Rattle.ld_refs.specs.Reaching.{structure_graph, numbers_among}
use Rattle.ld_refs.proofs.checks.cycles.structure_graph.Given as goal

abbrev pub invariant-loop-structure : goal.invariant-loop-structure
invariant-loop-structure l = edges_of l.graph.items ++ map (λ structure. numbers_among Structures l.names structure.children) (drop l.structure-index l.unit.structures) ≡ structure_graph l.unit l.names
