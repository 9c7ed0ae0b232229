use Rattle.std.proofs.Common.{◌≡◌, ◌+◌, ◌≤◌, min, drop}
use Rattle.ld_refs.specs.Extents.{unit_size}
use Rattle.ld_refs.specs.SizeView.{sizes_by}
use Rattle.ld_refs.proofs.checks.extents.Measure.unit_size.Given as goal

abbrev pub invariant-loop-index : goal.invariant-loop-index
invariant-loop-index l = record {
  least : l.sum ≤ 1000000;
  rest : min 1000000 (l.sum + unit_size l.self.unit.now (sizes_by l.self.sizes.now) l.self.names.now (drop l.index l.listing)) ≡ min 1000000 (unit_size l.self.unit.now (sizes_by l.self.sizes.now) l.self.names.now l.listing);
}
