use Rattle.std.proofs.Common.{◌≡◌, ◌+◌, ◌≤◌, drop}
use Rattle.ld_refs.specs.Bounds.{leaves_in}
use Rattle.ld_refs.proofs.checks.limits.count_leaves.Given as goal

abbrev pub invariant-loop-index : goal.invariant-loop-index
invariant-loop-index l = record {
  least : l.count ≤ l.index;
  rest : l.count + leaves_in l.of_members_only (drop l.index l.listing) ≡ leaves_in l.of_members_only l.listing;
}
