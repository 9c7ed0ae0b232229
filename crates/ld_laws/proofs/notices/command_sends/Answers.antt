use Rattle.ld_laws.proofs.LawsNotices.{command_sends}
use Rattle.ld_laws.proofs.notices.command_sends.Goals as goal

pub returns : goal.returns
returns c = command_sends
