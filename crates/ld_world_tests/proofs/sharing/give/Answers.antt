use Rattle.ld_run.proofs.StepStages.{on_any}
use Rattle.ld_state.specs.StateView.{run_of}
use Rattle.ld_sharing.proofs.Currents.{current_now}
use Rattle.ld_world_tests.proofs.Given.{all_given}
use Rattle.ld_world_tests.proofs.sharing.give.Goals as goal

pub returns-clause-current : goal.returns-clause-current
returns-clause-current g c =
    let unit = c.args.unit.now in
    let s = run_of c.args.state.now in
    on_any c.check-2.result
    (current_now unit s c.prepare.new.globals c.give_back.new.globals (c.give_back.ensures.values unit s c.in_ok-writes.ensures.writes))

pub prepare-requires-clause-others : goal.prepare-requires-clause-others
prepare-requires-clause-others g c =
    rw c.deref.ensures.value (all_given c.args.unit.now c.requires.sound.valid c.args.globals.now c.requires.serves
    c.args.state.now c.requires.own c.in_ok-slots.slots.items c.in_ok-slots.ensures)
