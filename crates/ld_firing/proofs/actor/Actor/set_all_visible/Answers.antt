use Rattle.std.proofs.Common.{◌∙◌, sym, subst, length}
use Rattle.ld_firing.specs.ActionCells.{HasSlots, visible_cells}
use Rattle.ld_firing.specs.Actions.{set_visible}
use Rattle.ld_firing.proofs.Looping.{slots_of_item}
use Rattle.ld_firing.proofs.Progressing.{does_all, does_next}
use Rattle.ld_firing.proofs.actor.Actor.set_all_visible.Goals as goal

pub set_visible-requires-clause-cells : goal.set_visible-requires-clause-cells
set_visible-requires-clause-cells c =
    let unit = c.args.self.now.unit.now in
    let owner = c.args.self.now.owner in
    let persons = length c.args.state.now.rows in
    let thing = c.thing-item.result in
    subst (λ rows. HasSlots unit (length rows) (visible_cells unit owner thing))
    (sym c.loop-thing.invariant.2)
    (slots_of_item unit persons (visible_cells unit owner) c.args.things.now c.loop-thing.thing-index thing
    c.loop-thing-test.true c.thing-item.is c.requires.cells)

pub loop-thing-preserved : goal.loop-thing-preserved
loop-thing-preserved c =
    let unit = c.args.self.now.unit.now in
    let before = c.loop-thing.invariant in
    let one = c.in_ok-set_visible.ensures in (
      λ fired. does_next (set_visible unit c.args.self.now.owner c.args.visible) c.args.things.now c.loop-thing.thing-index c.thing-item.result c.loop-thing-test.true c.thing-item.is (before.0 fired) (one.does fired),
      one.own,
      one.rows ∙ before.2,
      one.kept ∙ before.3,
    )

pub returns-clause-does : goal.returns-clause-does
returns-clause-does c fired =
    does_all (set_visible c.args.self.now.unit.now c.args.self.now.owner c.args.visible) c.args.things.now c.loop-thing.thing-index
    c.loop-thing-test.false (c.loop-thing.invariant.0 fired)
