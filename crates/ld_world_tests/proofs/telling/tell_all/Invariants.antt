use Rattle.std.proofs.Common.{◌≤◌}
use Rattle.ld_base.specs.Roomy.{room_of}
use Rattle.ld_world_tests.proofs.telling.tell_all.Given as goal

abbrev pub invariant-loop-text : goal.invariant-loop-text
invariant-loop-text g l = 128 ≤ room_of l.out
