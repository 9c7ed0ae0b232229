use Rattle.std.proofs.Common.{◌+◌, ◌-◌, ◌<◌, arith, sym, ◌∙◌, option_map}
use Rattle.std.specs.List.{range_with_len}
use Rattle.ld_model.specs.Expressions.{test_size}
use Rattle.ld_value.specs.declared.moment.Moment.{Moment}
use Rattle.ld_walk.proofs.ExpressionSizes.{test_within}
use Rattle.ld_expr.proofs.Asking.{range_more}
use Rattle.ld_alarm.proofs.Listed.{test_taken}
use Rattle.ld_alarm.proofs.Members.{passes_over, goes_on}
use Rattle.ld_alarm.proofs.test_switches.+tests.Goals as goal

pub next_of_members-loop-number-preserved-then-not-says_yes :
    goal.next_of_members-loop-number-preserved-then-not-says_yes
next_of_members-loop-number-preserved-then-not-says_yes g t c =
    let i = c.loop-number.number in
    let end = c.persons-number-end.result in
    passes_over {seen = g.V.View.seen c.args.scope.now.view.now} i (range_with_len (i + 1) (end - (i + 1)))
    c.says_yes.new.steps c.loop-number.invariant (range_more i end c.loop-number-test.true)
    (cc (c.says_yes.ensures.value, c.if-not-says_yes.true)) c.says_yes.ensures.cost

pub next_of_members-loop-number-preserved : goal.next_of_members-loop-number-preserved
next_of_members-loop-number-preserved g t c =
    let i = c.loop-number.number in
    let end = c.persons-number-end.result in
    goes_on {seen = g.V.View.seen c.args.scope.now.view.now} i (range_with_len (i + 1) (end - (i + 1)))
    c.next_of_test-own.new.steps
    (option_map (λ (moment : Moment). moment.0) c.next_of_test-own.result)
    (option_map (λ (moment : Moment). moment.0) c.earlier-next.result)
    c.loop-number.invariant (range_more i end c.loop-number-test.true) (cc (c.says_yes.ensures.value, c.if-not-says_yes.false))
    c.next_of_test-own.ensures.value c.earlier-next.ensures
    (omega (arith, c.says_yes.ensures.cost, c.next_of_test-own.ensures.cost))

pub next_of_test-next_of_users-requires : goal.next_of_test-next_of_users-requires
next_of_test-next_of_users-requires g t c κs within =
    let form = sym c.deref.ensures ∙ c.in-UsersInRole.is in
    let smaller : test_size c.deref-in-UsersInRole.result.now < test_size c.args.test.now = rw (← c.test.view_is, form, ← c.deref-in-UsersInRole.ensures) (omega arith) in
    (omega (arith, smaller), within)

pub next_of_test-returns-in-UsersInRole-clause-value :
    goal.next_of_test-returns-in-UsersInRole-clause-value
next_of_test-returns-in-UsersInRole-clause-value g t c =
    let form = sym c.deref.ensures ∙ c.in-UsersInRole.is in
    rw (← c.test.view_is, form, ← c.deref-in-UsersInRole.ensures) c.next_of_users.ensures.value

pub next_of_test-returns-in-UsersInRole-clause-cost :
    goal.next_of_test-returns-in-UsersInRole-clause-cost
next_of_test-returns-in-UsersInRole-clause-cost g t c =
    let form = sym c.deref.ensures ∙ c.in-UsersInRole.is in
    rw (← c.test.view_is, form, ← c.deref-in-UsersInRole.ensures) c.next_of_users.ensures.cost

pub next_of_tests-next_of_test-own-requires : goal.next_of_tests-next_of_test-own-requires
next_of_tests-next_of_test-own-requires g t c κs within =
    let smaller = test_within c.args.tests.now c.loop-test.test-index c.test-item.result c.loop-test-test.true c.test-item.is in
    (omega (arith, smaller), within)

pub next_of_tests-loop-test-preserved : goal.next_of_tests-loop-test-preserved
next_of_tests-loop-test-preserved g t c =
    let seen = g.V.View.seen c.args.scope.now.view.now in
    let taken = test_taken c.args.scope.now.unit.now seen c.args.owner c.args.tests.now c.loop-test.test-index c.test-item.result c.args.after.0
    (option_map (λ (moment : Moment). moment.0) c.loop-test.next)
    (option_map (λ (moment : Moment). moment.0) c.next_of_test-own.result)
    (option_map (λ (moment : Moment). moment.0) c.earlier-next.result)
    c.loop-test-test.true c.test-item.is c.next_of_test-own.ensures.value c.earlier-next.ensures in
    (taken.value ∙ c.loop-test.invariant.0, omega (arith, taken.looks, taken.switches, c.next_of_test-own.ensures.cost, c.loop-test.invariant.1))
