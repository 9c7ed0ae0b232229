use Rattle.std.proofs.Common.{◌≡◌, ◌+◌, ◌*◌, ◌≤◌, fold, map}
use Rattle.ld_base.specs.Numbers.{numbers_below}
use Rattle.ld_expr.specs.Owners.{of_person}
use Rattle.ld_firing.specs.Actions.{change_for}
use Rattle.ld_firing.specs.Costs.{term_leaves}
use Rattle.ld_firing.specs.Progress.{Does, progress_of}
use Rattle.ld_state.specs.StateView.{IsStateOf}
use Rattle.ld_firing.proofs.actor.Actor.change_for_everyone.Given as goal

abbrev pub invariant-loop-number : goal.invariant-loop-number
invariant-loop-number g l =
    Does l.self.unit.now (progress_of l.fn.state l.fn.changed.items l.fn.fired) (progress_of l.state l.changed.items l.fired)
    (λ doing. fold (change_for l.self.unit.now l.change) doing (map of_person (numbers_below l.number)))
    × IsStateOf l.self.unit.now l.state
    × (l.state.rows ≡ l.fn.state.rows)
    × (l.state.kept ≡ l.fn.state.kept)
    × (l.steps ≤ l.fn.steps + (term_leaves l.change.value + 2) * l.number)
