use Rattle.ld_laws.proofs.LawsAlarms.{alarm_is_later}
use Rattle.ld_laws.proofs.alarms.alarm_is_later.Goals as goal

pub returns : goal.returns
returns c = alarm_is_later
