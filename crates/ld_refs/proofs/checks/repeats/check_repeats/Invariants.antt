use Rattle.std.proofs.Common.{◌≡◌, drop, take}
use Rattle.ld_model.specs.Counting.{each_numbered_from}
use Rattle.ld_refs.specs.Repeats.{repeated_at, repeated_faults, texts_in}
use Rattle.ld_refs.specs.SeenTexts.{HasSeen}
use Rattle.ld_refs.proofs.checks.repeats.check_repeats.Given as goal

abbrev pub invariant-loop-index : goal.invariant-loop-index
invariant-loop-index l = record {
  seen : HasSeen l.seen (texts_in l.texts (take l.index l.listing));
  faults : each_numbered_from (repeated_at l.texts l.listing) l.index (drop l.index l.listing) ≡ repeated_faults l.texts l.listing;
}
