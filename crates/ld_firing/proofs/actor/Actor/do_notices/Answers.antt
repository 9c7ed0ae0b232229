use Rattle.std.proofs.Common.{◌∙◌, ◌≤◌, ◌+◌, length, arith}
use Rattle.ld_model.specs.declared.condition.Action.TheVariants.{Notify}
use Rattle.ld_firing.specs.Actions.{do_action}
use Rattle.ld_firing.specs.Costs.{action_cost}
use Rattle.ld_state.specs.StateView.{run_of}
use Rattle.ld_firing.proofs.Costing.{notice_costs, same_persons_counted}
use Rattle.ld_firing.proofs.Looping.{steps_all_of, steps_next_of, steps_stop_of}
use Rattle.ld_firing.proofs.Progressing.{does_all_of, does_next_of}
use Rattle.ld_firing.proofs.actor.Actor.do_notices.Goals as goal

pub loop-notice-preserved : goal.loop-notice-preserved
loop-notice-preserved g c =
    let unit = c.args.self.now.unit.now in
    let owner = c.args.self.now.owner in
    let before = c.loop-notice.invariant in
    let one = c.in_ok-do_notify.ensures in
    let item = c.notice-item.result in
    let cost = action_cost unit (run_of c.args.state.now) owner in
    let within : c.do_notify.new.steps ≤ c.loop-notice.steps + cost (Notify item) =
    omega (arith, one.cost, notice_costs unit (run_of c.args.state.now) owner item (length c.loop-notice.state.rows) (same_persons_counted c.loop-notice.state c.args.state.now before.2)) in (
      does_next_of (do_action unit owner) Notify c.args.notices.now c.loop-notice.notice-index item c.loop-notice-test.true c.notice-item.is before.0 (one.does c.args.changed.now.items),
      one.own,
      one.rows ∙ before.2,
      one.kept ∙ before.3,
      steps_next_of cost Notify c.args.notices.now c.loop-notice.notice-index item c.args.steps.now c.loop-notice.steps c.do_notify.new.steps c.loop-notice-test.true c.notice-item.is before.4 within,
    )

pub returns-clause-does : goal.returns-clause-does
returns-clause-does g c =
    does_all_of (do_action c.args.self.now.unit.now c.args.self.now.owner) Notify c.args.notices.now c.loop-notice.notice-index
    c.loop-notice-test.false c.loop-notice.invariant.0

pub returns-clause-cost : goal.returns-clause-cost
returns-clause-cost g c =
    steps_all_of (action_cost c.args.self.now.unit.now (run_of c.args.state.now) c.args.self.now.owner) Notify c.args.notices.now
    c.loop-notice.notice-index c.args.steps.now c.loop-notice.steps c.loop-notice-test.false c.loop-notice.invariant.4

pub returns-in_err-do_notify-clause-cost : goal.returns-in_err-do_notify-clause-cost
returns-in_err-do_notify-clause-cost g c =
    let unit = c.args.self.now.unit.now in
    let owner = c.args.self.now.owner in
    let before = c.loop-notice.invariant in
    let item = c.notice-item.result in
    let cost = action_cost unit (run_of c.args.state.now) owner in
    let within : c.do_notify.new.steps ≤ c.loop-notice.steps + cost (Notify item) =
    omega (arith, c.do_notify.ensures.cost, notice_costs unit (run_of c.args.state.now) owner item (length c.loop-notice.state.rows) (same_persons_counted c.loop-notice.state c.args.state.now before.2)) in
    steps_stop_of cost Notify c.args.notices.now c.loop-notice.notice-index item c.args.steps.now c.loop-notice.steps c.do_notify.new.steps
    c.loop-notice-test.true c.notice-item.is before.4 within
