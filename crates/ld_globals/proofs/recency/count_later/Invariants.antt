use Rattle.std.proofs.Common.{◌≡◌, ◌+◌, ◌≤◌, length}
use Rattle.std.specs.List.{prefix_len}
use Rattle.ld_globals.specs.Kept.{is_later}
use Rattle.ld_globals.proofs.recency.count_later.Given as goal

abbrev pub invariant-loop-number : goal.invariant-loop-number
invariant-loop-number g l = record {
  count : l.count + prefix_len (is_later l.bound) l.number-iterator ≡ prefix_len (is_later l.bound) l.fn.slots;
  room : l.count + length l.number-iterator ≤ length l.fn.slots;
  cost : l.steps ≡ l.fn.steps + l.count;
}
