use Rattle.std.proofs.Common.{◌≡◌, ◌+◌, ◌≤◌, min, drop}
use Rattle.ld_refs.specs.Extents.{sizes_named}
use Rattle.ld_refs.specs.SizeView.{sizes_by}
use Rattle.ld_refs.proofs.checks.sizes.Sizes.add_named.Given as goal

abbrev pub invariant-loop-id : goal.invariant-loop-id
invariant-loop-id l = record {
  least : l.sum ≤ 1000000;
  rest : min 1000000 (l.sum + sizes_named (sizes_by l.self) l.names (drop l.id-index l.ids)) ≡ min 1000000 (l.size + sizes_named (sizes_by l.self) l.names l.ids);
}
