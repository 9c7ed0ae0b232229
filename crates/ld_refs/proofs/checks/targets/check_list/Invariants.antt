use Rattle.std.proofs.Common.{◌≡◌, drop}
use Rattle.ld_model.specs.Counting.{each_numbered, each_numbered_from}
use Rattle.ld_refs.specs.Targets.{nth_target_fault}
use Rattle.ld_refs.proofs.checks.targets.check_list.Given as goal

abbrev pub invariant-loop-i : goal.invariant-loop-i
invariant-loop-i l = each_numbered_from (nth_target_fault l.names l.wanted l.at) l.i (drop l.i l.ids) ≡ each_numbered (nth_target_fault l.names l.wanted l.at) l.ids
