use Rattle.std.proofs.Common.{◌≡◌, ℕ, ◌+◌, ◌-◌, List, Option, OnErr, OnOk, Bool, true, ap, arith, drop, flat_map, subst, sym, ◌∙◌}
use Rattle.std.specs.List.{range_with_len}
use Rattle.ld_model.specs.Expressions.{tests_from}
use Rattle.ld_model.specs.declared.cell.CellName.{CellName}
use Rattle.ld_walk.proofs.ExpressionSizes.{test_within}
use Rattle.ld_expr.proofs.Totals.{from_here}
use Rattle.ld_expr.specs.Looks.{members_looks, test_looks, tests_looks}
use Rattle.ld_expr.specs.Lookup.{list_from}
use Rattle.ld_expr.specs.Membership.{is_member, members, members_of}
use Rattle.ld_expr.specs.Owners.{of_person}
use Rattle.ld_state.specs.RunState.{seen_in}
use Rattle.ld_state.specs.StateView.{run_of}
use Rattle.ld_settling.specs.Gathering.{FallsShort, Gathers, cells_if}
use Rattle.ld_settling.proofs.Gathered.{falls_short, gathers_both, gathers_on, members_counted, next_member, of_members, range_counted, short_first, short_then}
use Rattle.ld_settling.proofs.Reading.{on_err, on_ok, so_err, tests_counted, users_within}
use Rattle.ld_settling.proofs.reads.test_reads.+tests.Goals as goal

-- ---- a member after another

pub read_for_members-returns-in_err-read_for_member-clause-short : goal.read_for_members-returns-in_err-read_for_member-clause-short
read_for_members-returns-in_err-read_for_member-clause-short g t c =
    let unit = c.args.reader.now.unit.now in
    let seen = seen_in unit (run_of c.args.reader.now.state.now) in
    let looks : ℕ → List CellName = λ p. test_looks unit seen (of_person p) c.args.test.now in
    let member = is_member seen c.args.role.0 in
    let i = c.loop-number.number in
    let end = c.persons-number-end.result in
    so_err c.from_residual.result
    (falls_short (cells_if (member i) (looks i)) (of_members looks member (range_with_len (i + 1) (end - (i + 1)))) c.loop-number.invariant.0
    (next_member looks member i end c.loop-number-test.true) c.in_err-read_for_member.ensures.short)

pub read_for_members-returns-in_err-read_for_member-clause-cost : goal.read_for_members-returns-in_err-read_for_member-clause-cost
read_for_members-returns-in_err-read_for_member-clause-cost g t c =
    let unit = c.args.reader.now.unit.now in
    let seen = seen_in unit (run_of c.args.reader.now.state.now) in
    let looks : ℕ → List CellName = λ p. test_looks unit seen (of_person p) c.args.test.now in
    let member = is_member seen c.args.role.0 in
    let i = c.loop-number.number in
    let end = c.persons-number-end.result in
    let persons = range_counted i end c.loop-number-test.true in
    let cells = members_counted looks member i end c.loop-number-test.true in
    omega (arith, persons, cells, c.read_for_member.ensures.cost, c.loop-number.invariant.1)

pub read_for_members-loop-number-preserved : goal.read_for_members-loop-number-preserved
read_for_members-loop-number-preserved g t c =
    let unit = c.args.reader.now.unit.now in
    let seen = seen_in unit (run_of c.args.reader.now.state.now) in
    let looks : ℕ → List CellName = λ p. test_looks unit seen (of_person p) c.args.test.now in
    let member = is_member seen c.args.role.0 in
    let i = c.loop-number.number in
    let end = c.persons-number-end.result in
    let persons = range_counted i end c.loop-number-test.true in
    let cells = members_counted looks member i end c.loop-number-test.true in (
      gathers_on (cells_if (member i) (looks i)) (of_members looks member (range_with_len (i + 1) (end - (i + 1)))) c.loop-number.invariant.0
          (next_member looks member i end c.loop-number-test.true) c.in_ok-read_for_member.ensures.gathers,
      omega (arith, persons, cells, c.read_for_member.ensures.cost, c.loop-number.invariant.1),
    )

pub read_for_member-returns-clause-gathers : goal.read_for_member-returns-clause-gathers
read_for_member-returns-clause-gathers g t c =
    let unit = c.args.reader.now.unit.now in
    let run = run_of c.args.reader.now.state.now in
    let seen = seen_in unit run in
    let cells = test_looks unit seen (of_person c.args.person.0) c.args.test.now in
    let so : true ≡ is_member seen c.args.role.0 c.args.person.0 = cc (c.is_member.ensures.value, c.if-not-is_member.false) in
    subst
    (λ (member : Bool). OnOk c.read_test.result (Gathers unit run (cells_if member cells) c.args.list.now c.read_test.new.list))
    so c.read_test.ensures.gathers

pub read_for_member-returns-clause-short : goal.read_for_member-returns-clause-short
read_for_member-returns-clause-short g t c =
    let unit = c.args.reader.now.unit.now in
    let run = run_of c.args.reader.now.state.now in
    let seen = seen_in unit run in
    let cells = test_looks unit seen (of_person c.args.person.0) c.args.test.now in
    let so : true ≡ is_member seen c.args.role.0 c.args.person.0 = cc (c.is_member.ensures.value, c.if-not-is_member.false) in
    subst
    (λ (member : Bool). OnErr c.read_test.result (FallsShort unit run (cells_if member cells) c.args.list.now))
    so c.read_test.ensures.short

-- ---- the members of a role

pub read_users-returns-in_err-read_members-clause-short : goal.read_users-returns-in_err-read_members-clause-short
read_users-returns-in_err-read_members-clause-short g t c =
    let unit = c.args.reader.now.unit.now in
    let run = run_of c.args.reader.now.state.now in
    let seen = seen_in unit run in
    let looks : ℕ → List CellName = λ p. test_looks unit seen (of_person p) c.args.test.now in
    so_err c.from_residual.result
    (short_first unit run (members_looks unit seen c.args.role.now) (flat_map looks (members_of unit seen c.args.role.now))
    c.args.list.now c.in_err-read_members.ensures.short)

pub read_users-returns-in-Some-clause-gathers : goal.read_users-returns-in-Some-clause-gathers
read_users-returns-in-Some-clause-gathers g t c =
    let unit = c.args.reader.now.unit.now in
    let run = run_of c.args.reader.now.state.now in
    let seen = seen_in unit run in
    let looks : ℕ → List CellName = λ p. test_looks unit seen (of_person p) c.args.test.now in
    on_ok c.read_for_members.result
    (gathers_both unit run c.in_ok-read_members.ensures.gathers)
    (subst
    (λ (number : Option ℕ). OnOk c.read_for_members.result
    (Gathers unit run (flat_map looks (list_from (members seen) number)) c.read_members.new.list c.read_for_members.new.list))
    c.in-Some.ensures.number c.read_for_members.ensures.gathers)

pub read_users-returns-in-Some-clause-short : goal.read_users-returns-in-Some-clause-short
read_users-returns-in-Some-clause-short g t c =
    let unit = c.args.reader.now.unit.now in
    let run = run_of c.args.reader.now.state.now in
    let seen = seen_in unit run in
    let looks : ℕ → List CellName = λ p. test_looks unit seen (of_person p) c.args.test.now in
    on_err c.read_for_members.result
    (short_then unit run (members_looks unit seen c.args.role.now) (flat_map looks (members_of unit seen c.args.role.now))
    c.args.list.now c.read_members.new.list c.in_ok-read_members.ensures.gathers)
    (subst
    (λ (number : Option ℕ). OnErr c.read_for_members.result
    (FallsShort unit run (flat_map looks (list_from (members seen) number)) c.read_members.new.list))
    c.in-Some.ensures.number c.read_for_members.ensures.short)

pub read_users-returns-in-Some-clause-cost : goal.read_users-returns-in-Some-clause-cost
read_users-returns-in-Some-clause-cost g t c =
    let unit = c.args.reader.now.unit.now in
    let seen = seen_in unit (run_of c.args.reader.now.state.now) in
    let looks : ℕ → List CellName = λ p. test_looks unit seen (of_person p) c.args.test.now in
    users_within unit seen c.args.role.now looks c.in-Some.role.0 c.read_for_members.new.steps c.args.steps.now
    c.in-Some.ensures.number c.read_for_members.ensures.cost

-- ---- a test after another

pub read_tests-read_test-requires : goal.read_tests-read_test-requires
read_tests-read_test-requires g t c κs within =
    let smaller = test_within c.args.tests.now c.loop-test.test-index c.test-item.result c.loop-test-test.true c.test-item.is in
    (omega (arith, smaller), within)

pub read_tests-returns-in_err-read_test-clause-short : goal.read_tests-returns-in_err-read_test-clause-short
read_tests-returns-in_err-read_test-clause-short g t c =
    let unit = c.args.reader.now.unit.now in
    let seen = seen_in unit (run_of c.args.reader.now.state.now) in
    let i = c.loop-test.test-index in
    so_err c.from_residual.result
    (falls_short (test_looks unit seen c.args.owner c.test-item.result)
    (tests_looks unit seen c.args.owner (tests_from (drop (i + 1) c.args.tests.now))) c.loop-test.invariant.0
    (ap (λ tests. tests_looks unit seen c.args.owner (tests_from tests))
    (from_here c.args.tests.now i c.test-item.result c.loop-test-test.true c.test-item.is))
    c.in_err-read_test.ensures.short)

pub read_tests-returns-in_err-read_test-clause-cost : goal.read_tests-returns-in_err-read_test-clause-cost
read_tests-returns-in_err-read_test-clause-cost g t c =
    let unit = c.args.reader.now.unit.now in
    let seen = seen_in unit (run_of c.args.reader.now.state.now) in
    let i = c.loop-test.test-index in
    let cells = tests_counted unit seen c.args.owner c.args.tests.now i c.test-item.result c.loop-test-test.true c.test-item.is in
    omega (arith, cells, c.read_test.ensures.cost, c.loop-test.invariant.1)

pub read_tests-loop-test-preserved : goal.read_tests-loop-test-preserved
read_tests-loop-test-preserved g t c =
    let unit = c.args.reader.now.unit.now in
    let seen = seen_in unit (run_of c.args.reader.now.state.now) in
    let i = c.loop-test.test-index in
    let cells = tests_counted unit seen c.args.owner c.args.tests.now i c.test-item.result c.loop-test-test.true c.test-item.is in (
      gathers_on (test_looks unit seen c.args.owner c.test-item.result)
          (tests_looks unit seen c.args.owner (tests_from (drop (i + 1) c.args.tests.now))) c.loop-test.invariant.0
          (ap (λ tests. tests_looks unit seen c.args.owner (tests_from tests))
          (from_here c.args.tests.now i c.test-item.result c.loop-test-test.true c.test-item.is))
          c.in_ok-read_test.ensures.gathers,
      omega (arith, cells, c.in_ok-read_test.ensures.cost, c.loop-test.invariant.1),
    )

-- ---- a test

pub read_test-returns-in-And-clause-gathers : goal.read_test-returns-in-And-clause-gathers
read_test-returns-in-And-clause-gathers g t c =
    let form = sym c.deref.ensures ∙ c.in-And.is in
    rw (← c.test.view_is, form, ← c.deref-in-And.ensures.value) c.read_tests.ensures.gathers

pub read_test-returns-in-And-clause-short : goal.read_test-returns-in-And-clause-short
read_test-returns-in-And-clause-short g t c =
    let form = sym c.deref.ensures ∙ c.in-And.is in
    rw (← c.test.view_is, form, ← c.deref-in-And.ensures.value) c.read_tests.ensures.short

pub read_test-returns-in-And-clause-cost : goal.read_test-returns-in-And-clause-cost
read_test-returns-in-And-clause-cost g t c =
    let form = sym c.deref.ensures ∙ c.in-And.is in
    rw (← c.test.view_is, form, ← c.deref-in-And.ensures.value) c.read_tests.ensures.cost

pub read_test-returns-in-Or-clause-gathers : goal.read_test-returns-in-Or-clause-gathers
read_test-returns-in-Or-clause-gathers g t c =
    let form = sym c.deref.ensures ∙ c.in-Or.is in
    rw (← c.test.view_is, form, ← c.deref-in-Or.ensures.value) c.read_tests-in-Or.ensures.gathers

pub read_test-returns-in-Or-clause-short : goal.read_test-returns-in-Or-clause-short
read_test-returns-in-Or-clause-short g t c =
    let form = sym c.deref.ensures ∙ c.in-Or.is in
    rw (← c.test.view_is, form, ← c.deref-in-Or.ensures.value) c.read_tests-in-Or.ensures.short

pub read_test-returns-in-Or-clause-cost : goal.read_test-returns-in-Or-clause-cost
read_test-returns-in-Or-clause-cost g t c =
    let form = sym c.deref.ensures ∙ c.in-Or.is in
    rw (← c.test.view_is, form, ← c.deref-in-Or.ensures.value) c.read_tests-in-Or.ensures.cost

pub read_test-returns-in-Not-clause-gathers : goal.read_test-returns-in-Not-clause-gathers
read_test-returns-in-Not-clause-gathers g t c =
    let form = sym c.deref.ensures ∙ c.in-Not.is in
    rw (← c.test.view_is, form, ← c.deref-in-Not.ensures) c.read_test.ensures.gathers

pub read_test-returns-in-Not-clause-short : goal.read_test-returns-in-Not-clause-short
read_test-returns-in-Not-clause-short g t c =
    let form = sym c.deref.ensures ∙ c.in-Not.is in
    rw (← c.test.view_is, form, ← c.deref-in-Not.ensures) c.read_test.ensures.short

pub read_test-returns-in-UsersInRole-clause-gathers : goal.read_test-returns-in-UsersInRole-clause-gathers
read_test-returns-in-UsersInRole-clause-gathers g t c =
    let form = sym c.deref.ensures ∙ c.in-UsersInRole.is in
    rw (← c.test.view_is, form, ← c.deref-in-UsersInRole.ensures) c.read_users.ensures.gathers

pub read_test-returns-in-UsersInRole-clause-short : goal.read_test-returns-in-UsersInRole-clause-short
read_test-returns-in-UsersInRole-clause-short g t c =
    let form = sym c.deref.ensures ∙ c.in-UsersInRole.is in
    rw (← c.test.view_is, form, ← c.deref-in-UsersInRole.ensures) c.read_users.ensures.short

pub read_test-returns-in-UsersInRole-clause-cost : goal.read_test-returns-in-UsersInRole-clause-cost
read_test-returns-in-UsersInRole-clause-cost g t c =
    let form = sym c.deref.ensures ∙ c.in-UsersInRole.is in
    rw (← c.test.view_is, form, ← c.deref-in-UsersInRole.ensures) c.read_users.ensures.cost
