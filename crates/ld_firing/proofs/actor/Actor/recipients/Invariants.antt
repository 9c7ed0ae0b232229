use Rattle.std.proofs.Common.{◌≡◌, ◌+◌, ◌*◌, ◌≤◌, filter, length, map}
use Rattle.std.specs.List.{list_any}
use Rattle.ld_base.specs.Numbers.{numbers_below}
use Rattle.ld_expr.specs.Membership.{is_member_of}
use Rattle.ld_state.specs.RunState.{seen_in}
use Rattle.ld_state.specs.StateView.{run_of}
use Rattle.ld_firing.proofs.actor.Actor.recipients.Given as goal

abbrev pub invariant-loop-number : goal.invariant-loop-number
invariant-loop-number g l =
    (map (λ person. person.0) l.to
    ≡ filter (λ p. list_any (λ role. is_member_of l.self.unit.now (seen_in l.self.unit.now (run_of l.state)) role p) l.roles) (numbers_below l.number))
    × (l.steps ≤ l.fn.steps + length l.roles * l.number)
