use Rattle.ld_state.specs.StateView.{run_of}
use Rattle.ld_admission.proofs.CheckParts.{once_admitted, once_possible, once_refused}
use Rattle.ld_admission.proofs.checks.admit.Goals as goal

pub returns-clause-admitted : goal.returns-clause-admitted
returns-clause-admitted g c = once_admitted c.args.unit.now (run_of c.args.state.now) c.args.moment.0 c.args.command.now c.check.result c.check.ensures.answer.0

pub returns-clause-possible : goal.returns-clause-possible
returns-clause-possible g c = once_possible c.args.unit.now (run_of c.args.state.now) c.args.moment.0 c.args.command.now c.check.result c.check.ensures.answer.0

pub returns-clause-refused : goal.returns-clause-refused
returns-clause-refused g c = once_refused c.args.unit.now (run_of c.args.state.now) c.args.moment.0 c.args.command.now c.check.result c.check.ensures.answer.0
