use Rattle.std.proofs.Common.{◌≡◌, fold, take}
use Rattle.ld_base.specs.declared.fired.Fired.{Fired}
use Rattle.ld_firing.specs.Actions.{set_visible}
use Rattle.ld_firing.specs.Progress.{Does, progress_of}
use Rattle.ld_state.specs.StateView.{IsStateOf}
use Rattle.ld_firing.proofs.actor.Actor.set_all_visible.Given as goal

abbrev pub invariant-loop-thing : goal.invariant-loop-thing
invariant-loop-thing l =
    ((fired : Fired) → Does l.self.unit.now (progress_of l.fn.state l.fn.changed.items fired) (progress_of l.state l.changed.items fired)
    (λ doing. fold (set_visible l.self.unit.now l.self.owner l.visible) doing (take l.thing-index l.things)))
    × IsStateOf l.self.unit.now l.state
    × (l.state.rows ≡ l.fn.state.rows)
    × (l.state.kept ≡ l.fn.state.kept)
