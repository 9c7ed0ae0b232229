use Rattle.std.proofs.Common.{ap, arith}
use Rattle.ld_admission.specs.AdmittedView.{admitted_of}
use Rattle.ld_state.specs.StateView.{run_of}
use Rattle.ld_admission.specs.declared.admitted.Admitted.{Admitted as AdmittedOf}
use Rattle.ld_run.specs.CommandWork.{showing_steps}
use Rattle.ld_run.proofs.stages.tell.Goals as goal

pub returns-in-ShowsNext-clause-cost : goal.returns-in-ShowsNext-clause-cost
returns-in-ShowsNext-clause-cost g c =
    let steps = λ (command : AdmittedOf). showing_steps c.args.unit.now (run_of c.args.state.now) (admitted_of command) in
    omega (arith, c.tell_next.ensures.cost, ap steps c.in-ShowsNext.is)
