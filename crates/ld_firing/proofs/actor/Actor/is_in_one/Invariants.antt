use Rattle.std.proofs.Common.{◌≡◌, ◌+◌, ◌≤◌, drop}
use Rattle.std.specs.List.{list_any}
use Rattle.ld_expr.specs.Membership.{is_member_of}
use Rattle.ld_state.specs.RunState.{seen_in}
use Rattle.ld_state.specs.StateView.{run_of}
use Rattle.ld_firing.proofs.actor.Actor.is_in_one.Given as goal

abbrev pub invariant-loop-role : goal.invariant-loop-role
invariant-loop-role g l =
    (list_any (λ role. is_member_of l.self.unit.now (seen_in l.self.unit.now (run_of l.state)) role l.person.0) (drop l.role-index l.roles)
    ≡ list_any (λ role. is_member_of l.self.unit.now (seen_in l.self.unit.now (run_of l.state)) role l.person.0) l.roles)
    × (l.steps ≤ l.fn.steps + l.role-index)
