use Rattle.std.proofs.Common.{◌≡◌, ◌≤◌, ◌+◌, ◌*◌, ◌++◌, drop, map}
use Rattle.ld_state.specs.StateView.{run_of}
use Rattle.ld_sharing.specs.Changes.{shared_slots}
use Rattle.ld_sharing.specs.GivenValues.{given_by, other_values}
use Rattle.ld_sharing.specs.StoreView.{values_of}
use Rattle.ld_sharing.proofs.giving.list_writes.Given as goal

abbrev pub invariant-loop-slot : goal.invariant-loop-slot
invariant-loop-slot g l = record {
  writes :
      map given_by l.writes.items
      ++ other_values (values_of l.globals) l.unit (run_of l.state) (drop l.slot-index l.changed)
      ≡ other_values (values_of l.globals) l.unit (run_of l.state) l.changed;
  cost :
      l.steps + 2 * shared_slots l.unit (run_of l.state).persons (drop l.slot-index l.changed)
      ≤ l.fn.steps + 2 * shared_slots l.unit (run_of l.state).persons l.changed;
}
