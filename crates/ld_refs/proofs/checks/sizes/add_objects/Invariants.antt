use Rattle.std.proofs.Common.{◌≡◌, ◌+◌, ◌≤◌, min, drop}
use Rattle.std.specs.List.{sum_by}
use Rattle.ld_refs.specs.Extents.{object_size}
use Rattle.ld_refs.proofs.checks.sizes.add_objects.Given as goal

abbrev pub invariant-loop-object : goal.invariant-loop-object
invariant-loop-object l = record {
  least : l.sum ≤ 1000000;
  rest : min 1000000 (l.sum + sum_by object_size (drop l.object-index l.objects)) ≡ min 1000000 (l.size + sum_by object_size l.objects);
}
