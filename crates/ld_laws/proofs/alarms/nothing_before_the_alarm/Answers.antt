use Rattle.ld_laws.proofs.LawsAlarms.{nothing_before}
use Rattle.ld_laws.proofs.alarms.nothing_before_the_alarm.Goals as goal

pub returns : goal.returns
returns c = nothing_before
