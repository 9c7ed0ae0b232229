use Rattle.std.proofs.Common.{◌≤◌}
use Rattle.ld_base.specs.Roomy.{room_of}
use Rattle.ld_world.specs.WorldView.{world_of}
use Rattle.ld_generator.proofs.Playing.{Along}
use Rattle.ld_generator.proofs.play.play.Given as goal

abbrev pub invariant-loop-ask : goal.invariant-loop-ask
invariant-loop-ask g l = record {
  along : Along (world_of l.fn.world) l.asks (world_of l.world) l.tally l.ask-index;
  room : 128 ≤ room_of l.out;
}
