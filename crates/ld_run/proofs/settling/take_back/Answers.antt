use Rattle.std.proofs.Common.{◌∙◌, ap, arith, sym}
use Rattle.ld_state.proofs.Elements.{different}
use Rattle.ld_admission.specs.Checks.{is_started}
use Rattle.ld_state.specs.StateView.{run_of}
use Rattle.ld_firing.specs.RunSystem.{run_system}
use Rattle.ld_firing.proofs.Lawful.{run_is_lawful}
use Rattle.ld_cascade.proofs.Spending.{weight_within}
use Rattle.ld_run.proofs.settling.take_back.Goals as goal

pub restore-requires-clause-begun : goal.restore-requires-clause-begun
restore-requires-clause-begun g c = c.requires.begun (sym c.is_started.ensures.value ∙ c.if-is_started.true)

pub returns-then-is_started-clause-cost : goal.returns-then-is_started-clause-cost
returns-then-is_started-clause-cost g c =
    omega (
      arith,
      c.is_started.ensures.cost,
      c.restore.ensures.ticks,
      weight_within (run_system c.args.unit.now) (run_is_lawful c.args.unit.now) (run_of c.args.state.now) c.requires.sound
          c.args.links.now.wiring.sites c.args.links.now.wiring.relinked,
    )

pub returns-then-is_started-clause-linked : goal.returns-then-is_started-clause-linked
returns-then-is_started-clause-linked g c =
    let started = ap is_started c.restore.ensures.run ∙ sym c.is_started.ensures.value ∙ c.if-is_started.true in (
      λ _. c.restore.ensures.clean,
      λ closed. different (sym started ∙ closed),
    )
