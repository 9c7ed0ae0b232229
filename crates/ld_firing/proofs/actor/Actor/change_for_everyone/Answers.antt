use Rattle.std.proofs.Common.{◌∙◌, ◌≡◌, ◌≤◌, ◌+◌, sym, subst, fold, map, length, arith, ◌<◌}
use Rattle.ld_base.specs.Numbers.{numbers_below}
use Rattle.ld_expr.specs.Owners.{of_person}
use Rattle.ld_firing.specs.ActionCells.{HasSlots, change_cells}
use Rattle.ld_firing.specs.Actions.{change_for}
use Rattle.ld_firing.specs.Costs.{term_leaves}
use Rattle.ld_state.proofs.Elements.{in_map, in_below}
use Rattle.ld_firing.proofs.Looping.{does_below, slots_of_one, steps_of_each}
use Rattle.ld_firing.proofs.Progressing.{does_number}
use Rattle.ld_firing.proofs.actor.Actor.change_for_everyone.Goals as goal

pub change_for-requires-clause-cells : goal.change_for-requires-clause-cells
change_for-requires-clause-cells g c =
    let unit = c.args.self.now.unit.now in
    let change = c.args.change.now in
    let persons = length c.args.state.now.rows in
    let p = c.loop-number.number in
    let below : p < persons = omega (arith, c.loop-number-test.true, c.persons-number-end.ensures) in
    subst (λ rows. HasSlots unit (length rows) (change_cells unit change (of_person p)))
    (sym c.loop-number.invariant.2)
    (slots_of_one unit persons (change_cells unit change) (map of_person (numbers_below persons)) (of_person p)
    (in_map of_person (numbers_below persons) p (in_below persons p below)) c.requires.cells)

pub loop-number-preserved : goal.loop-number-preserved
loop-number-preserved g c =
    let unit = c.args.self.now.unit.now in
    let change = c.args.change.now in
    let before = c.loop-number.invariant in
    let p = c.loop-number.number in
    let one = c.in_ok-change_for.ensures in
    let cost = term_leaves change.value + 2 in
    let within : c.change_for.new.steps ≤ c.loop-number.steps + cost = omega (arith, one.cost) in (
      does_number (change_for unit change) of_person p before.0 one.does,
      one.own,
      one.rows ∙ before.2,
      one.kept ∙ before.3,
      steps_of_each c.args.steps.now c.loop-number.steps c.change_for.new.steps cost p before.4 within,
    )

pub returns-clause-does : goal.returns-clause-does
returns-clause-does g c =
    let unit = c.args.self.now.unit.now in
    let change = c.args.change.now in
    let all : c.loop-number.number ≡ length c.args.state.now.rows =
    omega (arith, c.loop-number-test.false, c.loop-number.auto.number-end, c.persons-number-end.ensures) in
    does_below (λ ps doing. fold (change_for unit change) doing (map of_person ps)) c.loop-number.number
    (length c.args.state.now.rows) all c.loop-number.invariant.0
