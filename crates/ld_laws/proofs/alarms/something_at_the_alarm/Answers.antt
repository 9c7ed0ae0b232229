use Rattle.ld_laws.proofs.LawsAlarms.{something_at}
use Rattle.ld_laws.proofs.alarms.something_at_the_alarm.Goals as goal

pub returns : goal.returns
returns c = something_at
