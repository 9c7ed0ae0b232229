use Rattle.std.proofs.Common.{◌∙◌, ◌≤◌, ◌+◌, subst, sym, length, arith}
use Rattle.ld_firing.specs.ActionCells.{HasSlots, action_cells}
use Rattle.ld_firing.specs.Actions.{do_action}
use Rattle.ld_firing.specs.Costs.{action_cost}
use Rattle.ld_state.specs.StateView.{run_of}
use Rattle.ld_firing.proofs.Costing.{same_costs}
use Rattle.ld_firing.proofs.Looping.{slots_of_item, steps_all, steps_next, steps_stop}
use Rattle.ld_firing.proofs.Progressing.{does_all, does_next}
use Rattle.ld_firing.proofs.actor.Actor.do_actions.Goals as goal

pub do_action-requires-clause-cells : goal.do_action-requires-clause-cells
do_action-requires-clause-cells g c =
    let unit = c.args.self.now.unit.now in
    let owner = c.args.self.now.owner in
    let persons = length c.args.state.now.rows in
    let action = c.action-item.result in
    subst (λ rows. HasSlots unit (length rows) (action_cells unit (length rows) owner action))
    (sym c.loop-action.invariant.2)
    (slots_of_item unit persons (action_cells unit persons owner) c.args.actions.now c.loop-action.action-index action
    c.loop-action-test.true c.action-item.is c.requires.cells)

pub loop-action-preserved : goal.loop-action-preserved
loop-action-preserved g c =
    let unit = c.args.self.now.unit.now in
    let owner = c.args.self.now.owner in
    let before = c.loop-action.invariant in
    let one = c.in_ok-do_action.ensures in
    let item = c.action-item.result in
    let cost = action_cost unit (run_of c.args.state.now) owner in
    let within : c.do_action.new.steps ≤ c.loop-action.steps + cost (item) =
    omega (arith, one.cost, same_costs unit c.loop-action.state c.args.state.now owner item before.2) in (
      does_next (do_action unit owner) c.args.actions.now c.loop-action.action-index item c.loop-action-test.true c.action-item.is before.0 one.does,
      one.own,
      one.rows ∙ before.2,
      one.kept ∙ before.3,
      steps_next cost c.args.actions.now c.loop-action.action-index item c.args.steps.now c.loop-action.steps c.do_action.new.steps c.loop-action-test.true c.action-item.is before.4 within,
    )

pub returns-clause-does : goal.returns-clause-does
returns-clause-does g c =
    does_all (do_action c.args.self.now.unit.now c.args.self.now.owner) c.args.actions.now c.loop-action.action-index
    c.loop-action-test.false c.loop-action.invariant.0

pub returns-clause-cost : goal.returns-clause-cost
returns-clause-cost g c =
    steps_all (action_cost c.args.self.now.unit.now (run_of c.args.state.now) c.args.self.now.owner) c.args.actions.now
    c.loop-action.action-index c.args.steps.now c.loop-action.steps c.loop-action-test.false c.loop-action.invariant.4

pub returns-in_err-do_action-clause-cost : goal.returns-in_err-do_action-clause-cost
returns-in_err-do_action-clause-cost g c =
    let unit = c.args.self.now.unit.now in
    let owner = c.args.self.now.owner in
    let before = c.loop-action.invariant in
    let item = c.action-item.result in
    let cost = action_cost unit (run_of c.args.state.now) owner in
    let within : c.do_action.new.steps ≤ c.loop-action.steps + cost (item) =
    omega (arith, c.do_action.ensures.cost, same_costs unit c.loop-action.state c.args.state.now owner item before.2) in
    steps_stop cost c.args.actions.now c.loop-action.action-index item c.args.steps.now c.loop-action.steps c.do_action.new.steps
    c.loop-action-test.true c.action-item.is before.4 within
