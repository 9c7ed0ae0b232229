use Rattle.ld_laws.proofs.LawsNotices.{firing_sends_all}
use Rattle.ld_laws.proofs.notices.firing_sends.Goals as goal

pub returns : goal.returns
returns c = firing_sends_all
