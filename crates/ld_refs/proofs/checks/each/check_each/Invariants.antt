use Rattle.std.proofs.Common.{◌≡◌, drop, flat_map}
use Rattle.ld_refs.proofs.checks.each.check_each.Given as goal

abbrev pub invariant-loop-index : goal.invariant-loop-index
invariant-loop-index g l = flat_map (g.C.PartCheck.faults l.check) (drop l.index l.listing) ≡ flat_map (g.C.PartCheck.faults l.check) l.listing
