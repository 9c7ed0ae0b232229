use Rattle.std.proofs.Common.{◌≡◌, drop, take}
use Rattle.ld_model.specs.Counting.{each_numbered, each_numbered_from}
use Rattle.ld_refs.specs.Repeats.{repeated_target}
use Rattle.ld_refs.specs.SeenTexts.{HasSeen}
use Rattle.ld_refs.proofs.checks.repeats.check_list.Given as goal

abbrev pub invariant-loop-i : goal.invariant-loop-i
invariant-loop-i l = record {
  seen : HasSeen l.seen (take l.i l.ids);
  faults : each_numbered_from (repeated_target l.at l.ids) l.i (drop l.i l.ids) ≡ each_numbered (repeated_target l.at l.ids) l.ids;
}
