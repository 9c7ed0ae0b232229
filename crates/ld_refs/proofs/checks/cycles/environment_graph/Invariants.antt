use Rattle.std.proofs.Common.{◌≡◌, ◌++◌, map, drop}
use Rattle.ld_refs.specs.declared.checks.cycles.Nodes.TheVariants.{Environments}
use Rattle.ld_refs.specs.Edges.{edges_of}
use Rattle.ld_refs.specs.Reaching.{environment_graph, numbers_among}
use Rattle.ld_refs.proofs.checks.cycles.environment_graph.Given as goal

abbrev pub invariant-loop-environment : goal.invariant-loop-environment
invariant-loop-environment l = edges_of l.graph.items ++ map (λ environment. numbers_among Environments l.names environment.environments) (drop l.environment-index l.unit.environments) ≡ environment_graph l.unit l.names
