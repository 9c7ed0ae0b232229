use Rattle.std.proofs.Common.{arith}
use Rattle.ld_admission.specs.AdmittedView.{admitted_of}
use Rattle.ld_state.specs.StateView.{run_of}
use Rattle.ld_run.proofs.CommandSums.{shown_few}
use Rattle.ld_run.proofs.stages.tell_done.Goals as goal

pub returns-clause-cost : goal.returns-clause-cost
returns-clause-cost g c =
    omega (arith, c.push_done.ensures.cost, shown_few c.args.unit.now (run_of c.args.state.now) (admitted_of c.args.command.now) c.requires.order.sound.valid)

pub returns-in_err-push_done-clause-cost : goal.returns-in_err-push_done-clause-cost
returns-in_err-push_done-clause-cost g c =
    omega (arith, c.push_done.ensures.cost, shown_few c.args.unit.now (run_of c.args.state.now) (admitted_of c.args.command.now) c.requires.order.sound.valid)

pub returns-in_err-push-clause-cost : goal.returns-in_err-push-clause-cost
returns-in_err-push-clause-cost g c =
    omega (arith, c.push_done.ensures.cost, shown_few c.args.unit.now (run_of c.args.state.now) (admitted_of c.args.command.now) c.requires.order.sound.valid)
