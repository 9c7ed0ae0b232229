use Rattle.std.proofs.Common.{subst, sym}
use Rattle.ld_state.specs.StateView.{run_of}
use Rattle.ld_firing.specs.RunSystem.{IsSoundRun}
use Rattle.ld_settling.proofs.CleanLinks.{run_follows_self}
use Rattle.ld_world_tests.proofs.sites.go_restored.Goals as goal

pub restore-requires-clause-begun : goal.restore-requires-clause-begun
restore-requires-clause-begun g c = (
  c.begin.new.self,
  c.begin.ensures.clean c.args.unit.now (run_of c.args.state.now) c.requires.clean,
  run_follows_self,
)

pub returns-clause-sound : goal.returns-clause-sound
returns-clause-sound g c = subst (IsSoundRun c.args.unit.now) (sym c.restore.ensures.run) c.requires.sound
