use Rattle.std.proofs.Common.{◌∙◌, ◌≡◌, ap, sym, true, false, arith}
use Rattle.ld_names.specs.Names.{role_number}
use Rattle.ld_expr.specs.Membership.{is_member_of}
use Rattle.ld_expr.specs.Seen.{Seen, member_cell}
use Rattle.ld_state.specs.RunState.{seen_in}
use Rattle.ld_state.specs.StateView.{run_of}
use Rattle.ld_firing.proofs.Looping.{any_here, any_next}
use Rattle.ld_firing.proofs.NewValues.{one_look}
use Rattle.ld_state.proofs.SeenSame.{seen_same}
use Rattle.ld_firing.proofs.actor.Actor.is_in_one.Goals as goal

pub returns-then-is_member_of-clause-value : goal.returns-then-is_member_of-clause-value
returns-then-is_member_of-clause-value g c =
    let unit = c.args.self.now.unit.now in
    let p = c.args.person.0 in
    let role = c.role-item.result in
    let is : is_member_of unit (seen_in unit (run_of c.args.state.now)) role p ≡ true =
    sym (ap (λ (seen : Seen). is_member_of unit seen role p) (seen_same unit c.args.state.now c.requires))
    ∙ sym c.is_member_of.ensures.value ∙ c.if-is_member_of.true in
    any_here (λ one. is_member_of unit (seen_in unit (run_of c.args.state.now)) one p) c.args.roles.now c.loop-role.role-index role
    c.loop-role-test.true c.role-item.is is c.loop-role.invariant.0

pub loop-role-preserved : goal.loop-role-preserved
loop-role-preserved g c =
    let unit = c.args.self.now.unit.now in
    let p = c.args.person.0 in
    let role = c.role-item.result in
    let is : is_member_of unit (seen_in unit (run_of c.args.state.now)) role p ≡ false =
    sym (ap (λ (seen : Seen). is_member_of unit seen role p) (seen_same unit c.args.state.now c.requires))
    ∙ sym c.is_member_of.ensures.value ∙ c.if-is_member_of.false in (
      any_next (λ one. is_member_of unit (seen_in unit (run_of c.args.state.now)) one p) c.args.roles.now c.loop-role.role-index role c.loop-role-test.true c.role-item.is is c.loop-role.invariant.0,
      omega (arith, c.loop-role.invariant.1, c.is_member_of.ensures.cost, one_look (λ r. member_cell r p) (role_number unit role)),
    )
