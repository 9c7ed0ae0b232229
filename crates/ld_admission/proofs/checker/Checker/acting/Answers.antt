use Rattle.ld_state.specs.StateView.{run_of}
use Rattle.ld_admission.proofs.CheckParts.{person_passes, person_refused}
use Rattle.ld_admission.proofs.checker.Checker.acting.Goals as goal

pub returns-clause-person : goal.returns-clause-person
returns-clause-person g c =
    person_passes (run_of c.args.self.now.state.now) c.args.moment.0 c.args.name.now c.the_person.result c.in_ok-in_running.ensures.passes c.the_person.ensures.person

pub returns-clause-refused : goal.returns-clause-refused
returns-clause-refused g c =
    person_refused (run_of c.args.self.now.state.now) c.args.moment.0 c.args.name.now c.the_person.result c.in_ok-in_running.ensures.passes c.the_person.ensures.person
