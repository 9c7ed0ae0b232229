use Rattle.std.proofs.Common.{◌≡◌, ◌+◌, ◌≤◌, fold, take}
use Rattle.std.specs.List.{sum_by}
use Rattle.ld_firing.specs.Actions.{do_action}
use Rattle.ld_firing.specs.Costs.{action_cost}
use Rattle.ld_firing.specs.Progress.{Does, progress_of}
use Rattle.ld_state.specs.StateView.{IsStateOf, run_of}
use Rattle.ld_firing.proofs.actor.Actor.do_actions.Given as goal

abbrev pub invariant-loop-action : goal.invariant-loop-action
invariant-loop-action g l =
    Does l.self.unit.now (progress_of l.fn.state l.fn.changed.items l.fn.fired) (progress_of l.state l.changed.items l.fired)
    (λ doing. fold (do_action l.self.unit.now l.self.owner) doing (take l.action-index l.actions))
    × IsStateOf l.self.unit.now l.state
    × (l.state.rows ≡ l.fn.state.rows)
    × (l.state.kept ≡ l.fn.state.kept)
    × (l.steps ≤ l.fn.steps + sum_by (action_cost l.self.unit.now (run_of l.fn.state) l.self.owner) (take l.action-index l.actions))
