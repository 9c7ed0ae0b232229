use Rattle.std.proofs.Common.{◌≡◌, vec_len, vec_capacity}
use Rattle.ld_cells.specs.Stored.{cells_of}
use Rattle.ld_cells.specs.Recorded.{before, AreBelow}
use Rattle.ld_cells.proofs.recorded.take_back.Given as goal

abbrev pub invariant-loop-change : goal.invariant-loop-change
invariant-loop-change l = record {
  slots : AreBelow (vec_len l.values) l.changes.items;
  cells : before l.changes.items (cells_of l.values.items) ≡ before l.fn.changes.items (cells_of l.fn.values.items);
  length : vec_len l.values ≡ vec_len l.fn.values;
  room : vec_capacity l.values ≡ vec_capacity l.fn.values;
  capacity : vec_capacity l.changes ≡ vec_capacity l.fn.changes;
}

abbrev pub decreases-loop-change : goal.decreases-loop-change
decreases-loop-change l = goal.left-loop-change l
