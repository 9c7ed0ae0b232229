use Rattle.std.proofs.Common.{◌≡◌, drop}
use Rattle.ld_model.specs.Counting.{each_numbered, each_numbered_from}
use Rattle.ld_types.specs.PropertyFaults.{listed_faults}
use Rattle.ld_types.proofs.properties.check_listed.Given as goal

abbrev pub invariant-loop-i : goal.invariant-loop-i
invariant-loop-i l = each_numbered_from (listed_faults l.kind l.at) l.i (drop l.i l.texts) ≡ each_numbered (listed_faults l.kind l.at) l.texts
