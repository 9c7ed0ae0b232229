use Rattle.std.proofs.Common.{◌∙◌, ap, sym}
use Rattle.ld_model.specs.declared.condition.Action.TheVariants.{Show, Hide, Change, Notify}
use Rattle.ld_state.proofs.Written.{on_ok}
use Rattle.ld_firing.proofs.Progressing.{acts_as}
use Rattle.ld_firing.proofs.actor.Actor.do_action.Goals as goal

pub returns-in-Show-clause-does : goal.returns-in-Show-clause-does
returns-in-Show-clause-does g c =
    on_ok c.set_all_visible.result (c.set_all_visible.ensures.does c.args.fired.now) (λ does.
    acts_as c.args.self.now.owner c.args.action.now (Show c.as_slice.result.now)
    (c.in-Show.is ∙ ap Show (sym c.as_slice.ensures)) does)

pub returns-in-Hide-clause-does : goal.returns-in-Hide-clause-does
returns-in-Hide-clause-does g c =
    on_ok c.set_all_visible-in-Hide.result (c.set_all_visible-in-Hide.ensures.does c.args.fired.now) (λ does.
    acts_as c.args.self.now.owner c.args.action.now (Hide c.as_slice-in-Hide.result.now)
    (c.in-Hide.is ∙ ap Hide (sym c.as_slice-in-Hide.ensures)) does)

pub returns-in-Change-clause-does : goal.returns-in-Change-clause-does
returns-in-Change-clause-does g c =
    on_ok c.do_change.result c.do_change.ensures.does (λ does.
    acts_as c.args.self.now.owner c.args.action.now (Change c.in-Change.change) c.in-Change.is does)

pub returns-in-Notify-clause-does : goal.returns-in-Notify-clause-does
returns-in-Notify-clause-does g c =
    on_ok c.do_notify.result (c.do_notify.ensures.does c.args.changed.now.items) (λ does.
    acts_as c.args.self.now.owner c.args.action.now (Notify c.in-Notify.notice) c.in-Notify.is does)
