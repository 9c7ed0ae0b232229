use Rattle.std.proofs.Common.{◌∙◌, refl}
use Rattle.ld_state.specs.StateView.{run_of}
use Rattle.ld_next.proofs.Readers.{alarm_of_readers}
use Rattle.ld_next.proofs.run_alarm.next_alarm.Goals as goal

pub returns-clause-value : goal.returns-clause-value
returns-clause-value g c =
    c.earliest_of.ensures.value
    ∙ alarm_of_readers c.args.unit.now (run_of c.args.state.now) c.requires.sound 1 refl c.requires.quiet c.args.readers c.requires.readers
