use Rattle.std.proofs.Common.{◌≡◌, ◌≤◌, ◌+◌, ◌*◌, length}
use Rattle.ld_state.specs.StateView.{IsStateOf, run_of}
use Rattle.ld_firing.specs.Telling.{Tells}
use Rattle.ld_sharing.specs.Current.{written_count}
use Rattle.ld_sharing.specs.Fitting.{HasFittingGlobals}
use Rattle.ld_sharing.specs.Globals.{taking_in}
use Rattle.ld_sharing.specs.StoreView.{values_of}
use Rattle.ld_sharing.specs.Told.{TellsTaken}
use Rattle.ld_sharing.proofs.TakenOnly.{StillHas}
use Rattle.ld_sharing.proofs.TakingLoops.{HasAllBut}
use Rattle.ld_sharing.proofs.taking.take_in.Given as goal

abbrev pub invariant-loop-uri : goal.invariant-loop-uri
invariant-loop-uri g l = record {
  left : HasAllBut l.uri-iterator l.unit l.globals (run_of l.state);
  same : taking_in l.unit (values_of l.globals) (run_of l.state) ≡ taking_in l.unit (values_of l.globals) (run_of l.fn.state);
  fitting : HasFittingGlobals l.unit (run_of l.state);
  told : Tells l.unit (run_of l.fn.state) (run_of l.state) l.fn.changed.items l.changed.items;
  still : StillHas l.unit (values_of l.globals) (run_of l.fn.state).persons (run_of l.fn.state) (run_of l.state);
  only :
      TellsTaken l.unit (values_of l.globals) (run_of l.fn.state).persons (run_of l.fn.state) (run_of l.state)
      l.fn.changed.items l.changed.items;
  own : IsStateOf l.unit l.state;
  rows : l.state.rows ≡ l.fn.state.rows;
  outbox : l.state.outbox ≡ l.fn.state.outbox;
  kept : l.state.kept ≡ l.fn.state.kept;
  cost : l.steps + 2 * length l.uri-iterator ≤ l.fn.steps + 3 * written_count l.globals l.stamp;
}
