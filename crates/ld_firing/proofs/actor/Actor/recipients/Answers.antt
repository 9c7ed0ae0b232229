use Rattle.std.proofs.Common.{◌∙◌, ◌≡◌, ◌++◌, ◌∷◌, [], ap, sym, map, length, true, false}
use Rattle.std.proofs.lemmas.List.{map-append}
use Rattle.std.specs.List.{list_any}
use Rattle.ld_expr.specs.Membership.{is_member_of}
use Rattle.ld_state.specs.RunState.{seen_in}
use Rattle.ld_state.specs.StateView.{run_of}
use Rattle.ld_firing.proofs.Looping.{fails_next, passes_next, steps_of_each}
use Rattle.ld_firing.proofs.actor.Actor.recipients.Goals as goal

pub loop-number-preserved-then-not-is_in_one : goal.loop-number-preserved-then-not-is_in_one
loop-number-preserved-then-not-is_in_one g c =
    let unit = c.args.self.now.unit.now in
    let roles = c.args.roles.now in
    let n = c.loop-number.number in
    let is : list_any (λ role. is_member_of unit (seen_in unit (run_of c.args.state.now)) role n) roles ≡ false =
    sym c.is_in_one.ensures.value ∙ cc (c.if-not-is_in_one.true) in (
      c.loop-number.invariant.0 ∙ sym (fails_next (λ p. list_any (λ role. is_member_of unit (seen_in unit (run_of c.args.state.now)) role p) roles) n is),
      steps_of_each c.args.steps.now c.loop-number.steps c.is_in_one.new.steps (length roles) n c.loop-number.invariant.1 c.is_in_one.ensures.cost,
    )

pub loop-number-preserved : goal.loop-number-preserved
loop-number-preserved g c =
    let unit = c.args.self.now.unit.now in
    let roles = c.args.roles.now in
    let n = c.loop-number.number in
    let is : list_any (λ role. is_member_of unit (seen_in unit (run_of c.args.state.now)) role n) roles ≡ true =
    sym c.is_in_one.ensures.value ∙ cc (c.if-not-is_in_one.false) in (
      ap (map (λ person. person.0)) c.in_ok-push.ensures.ok ∙ map-append (λ person. person.0) c.loop-number.to (record { 0 = n } ∷ [])
          ∙ ap (λ ps. ps ++ n ∷ []) c.loop-number.invariant.0
          ∙ sym (passes_next (λ p. list_any (λ role. is_member_of unit (seen_in unit (run_of c.args.state.now)) role p) roles) n is),
      steps_of_each c.args.steps.now c.loop-number.steps c.is_in_one.new.steps (length roles) n c.loop-number.invariant.1 c.is_in_one.ensures.cost,
    )
