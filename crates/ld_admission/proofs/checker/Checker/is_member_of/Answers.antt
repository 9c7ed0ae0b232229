use Rattle.std.proofs.Common.{ℕ, ◌∙◌, ap, arith}
use Rattle.ld_model.specs.declared.unit.Unit.{Unit}
use Rattle.ld_expr.specs.Membership.{is_member_of}
use Rattle.ld_expr.specs.Seen.{Seen, member_cell}
use Rattle.ld_names.specs.Names.{role_number}
use Rattle.ld_state.specs.StateView.{StateView, seen_of}
use Rattle.ld_state.proofs.SeenSame.{seen_same}
use Rattle.ld_admission.proofs.OneLook.{one_look}
use Rattle.ld_admission.proofs.checker.Checker.is_member_of.Goals as goal

pub returns-clause-value : goal.returns-clause-value
returns-clause-value g c =
    let role = c.args.role.now in
    let p = c.args.person.0 in
    let unit = c.args.self.now.unit.now in
    c.is_member_of.ensures.value
    ∙ ap (λ (one : Unit). is_member_of one (seen_of c.scope.result.view.now) role p) c.scope.ensures.unit
    ∙ ap (λ (s : StateView). is_member_of unit (seen_of s) role p) c.scope.ensures.view
    ∙ ap (λ (seen : Seen). is_member_of unit seen role p) (seen_same unit c.args.self.now.state.now c.args.self.now.own)

pub returns-clause-cost : goal.returns-clause-cost
returns-clause-cost g c =
    let one = one_look (λ (r : ℕ). member_cell r c.args.person.0) (role_number c.scope.result.unit.now c.args.role.now) in
    omega (arith, c.is_member_of.ensures.cost, one)
