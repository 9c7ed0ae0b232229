use Rattle.std.proofs.Common.{◌∙◌, ◌≤◌, ◌+◌, subst, sym, map, length, arith}
use Rattle.ld_model.specs.declared.condition.Action.TheVariants.{Change}
use Rattle.ld_firing.specs.ActionCells.{HasSlots, action_cells, all_change_cells}
use Rattle.ld_firing.specs.Actions.{do_action}
use Rattle.ld_firing.specs.Costs.{action_cost}
use Rattle.ld_state.specs.StateView.{run_of}
use Rattle.ld_state.proofs.Elements.{in_map}
use Rattle.ld_firing.proofs.Costing.{change_costs, same_persons_counted}
use Rattle.ld_firing.proofs.Looping.{item_in, slots_of_one, steps_all_of, steps_next_of, steps_stop_of}
use Rattle.ld_firing.proofs.Progressing.{does_all_of, does_next_of}
use Rattle.ld_firing.proofs.actor.Actor.do_changes.Goals as goal

pub do_change-requires-clause-cells : goal.do_change-requires-clause-cells
do_change-requires-clause-cells g c =
    let unit = c.args.self.now.unit.now in
    let owner = c.args.self.now.owner in
    let persons = length c.args.state.now.rows in
    let change = c.change-item.result in
    subst (λ rows. HasSlots unit (length rows) (all_change_cells unit (length rows) owner change))
    (sym c.loop-change.invariant.2)
    (slots_of_one unit persons (action_cells unit persons owner) (map Change c.args.changes.now) (Change change)
    (in_map Change c.args.changes.now change (item_in c.args.changes.now c.loop-change.change-index change c.loop-change-test.true c.change-item.is))
    c.requires.cells)

pub loop-change-preserved : goal.loop-change-preserved
loop-change-preserved g c =
    let unit = c.args.self.now.unit.now in
    let owner = c.args.self.now.owner in
    let before = c.loop-change.invariant in
    let one = c.in_ok-do_change.ensures in
    let item = c.change-item.result in
    let cost = action_cost unit (run_of c.args.state.now) owner in
    let within : c.do_change.new.steps ≤ c.loop-change.steps + cost (Change item) =
    omega (arith, one.cost, change_costs unit (run_of c.args.state.now) owner item (length c.loop-change.state.rows) (same_persons_counted c.loop-change.state c.args.state.now before.2)) in (
      does_next_of (do_action unit owner) Change c.args.changes.now c.loop-change.change-index item c.loop-change-test.true c.change-item.is before.0 one.does,
      one.own,
      one.rows ∙ before.2,
      one.kept ∙ before.3,
      steps_next_of cost Change c.args.changes.now c.loop-change.change-index item c.args.steps.now c.loop-change.steps c.do_change.new.steps c.loop-change-test.true c.change-item.is before.4 within,
    )

pub returns-clause-does : goal.returns-clause-does
returns-clause-does g c =
    does_all_of (do_action c.args.self.now.unit.now c.args.self.now.owner) Change c.args.changes.now c.loop-change.change-index
    c.loop-change-test.false c.loop-change.invariant.0

pub returns-clause-cost : goal.returns-clause-cost
returns-clause-cost g c =
    steps_all_of (action_cost c.args.self.now.unit.now (run_of c.args.state.now) c.args.self.now.owner) Change c.args.changes.now
    c.loop-change.change-index c.args.steps.now c.loop-change.steps c.loop-change-test.false c.loop-change.invariant.4

pub returns-in_err-do_change-clause-cost : goal.returns-in_err-do_change-clause-cost
returns-in_err-do_change-clause-cost g c =
    let unit = c.args.self.now.unit.now in
    let owner = c.args.self.now.owner in
    let before = c.loop-change.invariant in
    let item = c.change-item.result in
    let cost = action_cost unit (run_of c.args.state.now) owner in
    let within : c.do_change.new.steps ≤ c.loop-change.steps + cost (Change item) =
    omega (arith, c.do_change.ensures.cost, change_costs unit (run_of c.args.state.now) owner item (length c.loop-change.state.rows) (same_persons_counted c.loop-change.state c.args.state.now before.2)) in
    steps_stop_of cost Change c.args.changes.now c.loop-change.change-index item c.args.steps.now c.loop-change.steps c.do_change.new.steps
    c.loop-change-test.true c.change-item.is before.4 within
