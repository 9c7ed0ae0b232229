use Rattle.std.proofs.Common.{◌≡◌, ◌+◌, refl, rules}
use Rattle.ld_state.specs.Notices.{notice_of}
use Rattle.ld_firing.proofs.Progressing.{notified}
use Rattle.ld_firing.proofs.actor.Actor.do_notify.Goals as goal

pub returns-clause-does : goal.returns-clause-does
returns-clause-does g c told =
    let counted : c.in-Some.sent ≡ c.args.fired.now.sent + 1 = search rules in
    notified c.args.self.now.unit.now c.args.notice.now c.args.state.now c.send.new.self told c.args.fired.now _
    (notice_of c.in_ok-notice.notice) c.in_ok-send.ensures.run c.in_ok-notice.ensures.notice refl counted
