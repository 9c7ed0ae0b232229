use Rattle.std.proofs.Common.{arith, ◌<◌, codes, rules}
use Rattle.std.proofs.lemmas.Result.{err_from_is_err_and}
use Rattle.serde_json.specs.Data.{depth}
use Rattle.ld_formats.proofs.Unrolled.{test_is}
use Rattle.ld_formats.specs.Tests.{test, of_members}
use Rattle.ld_json.specs.Access.{item_nodes}
use Rattle.ld_shape.proofs.Depths.{depth-get, depth-at}
use Rattle.ld_shape.proofs.Passing.{pass_faults, pass_value, stop_at}
use Rattle.ld_method.proofs.test_forms.+tests.Goals as goal

pub read_test-returns : goal.read_test-returns
read_test-returns t c = rw (test_is c.args.node.now) c.read_one.ensures

pub expression_at-read_test-requires : goal.expression_at-read_test-requires
expression_at-read_test-requires t c =
    let less : depth c.in_ok-member.field-0.tree < depth c.args.node.now.tree =
    depth-get (codes "expression") c.args.node.now.tree c.in_ok-member.field-0.tree c.in_ok-member.ensures.tree in
    (omega arith, tt)

pub read_one-read_of_members-requires : goal.read_one-read_of_members-requires
read_one-read_of_members-requires t c =
    let less : depth c.in_ok-member-in-text.field-0.tree < depth c.args.node.now.tree =
    depth-get (codes "users-in-role") c.args.node.now.tree c.in_ok-member-in-text.field-0.tree c.in_ok-member-in-text.ensures.tree in
    (omega arith, tt)

pub read_tests-read_test-requires : goal.read_tests-read_test-requires
read_tests-read_test-requires t c =
    let less : depth c.item.result.tree < depth c.args.node.now.tree =
    depth-at c.loop-index.index c.args.node.now.tree c.item.result.tree c.item.ensures.tree in
    (omega arith, tt)

pub read_tests-loop-index-preserved : goal.read_tests-loop-index-preserved
read_tests-loop-index-preserved t c = record {
  faults = pass_faults test
      (item_nodes c.args.node.now) c.loop-index.index c.item.result _ c.item.ensures.item c.in_ok-test.ensures.faultless c.loop-index.invariant.faults;
  value = rw c.in_ok-push.ensures.ok (pass_value test
      (item_nodes c.args.node.now) c.loop-index.index c.item.result c.loop-index.tests c.in_ok-test.test _ c.item.ensures.item c.in_ok-test.ensures.value c.loop-index.invariant.value);
}

pub read_tests-returns-in_err-test : goal.read_tests-returns-in_err-test
read_tests-returns-in_err-test t c =
    let failed = err_from_is_err_and c.from_residual-in_err-test.result c.from_residual-in_err-test.ensures.1 in
    rw (failed.1, failed.2, c.in_ok-count.ensures.faultless)
    (stop_at test (item_nodes c.args.node.now) c.loop-index.index c.item.result c.in_err-test.field-0.0 c.item.ensures.item c.loop-index.invariant.faults c.in_err-test.ensures)

pub read_of_members-returns-in_err-only : goal.read_of_members-returns-in_err-only
unfolding of_members
read_of_members-returns-in_err-only t c = search rules

pub read_of_members-returns-in_err-role : goal.read_of_members-returns-in_err-role
unfolding of_members
read_of_members-returns-in_err-role t c = search rules

pub read_of_members-returns-in_err-test : goal.read_of_members-returns-in_err-test
unfolding of_members
read_of_members-returns-in_err-test t c = search rules

pub read_of_members-returns : goal.read_of_members-returns
unfolding of_members
read_of_members-returns t c = search rules
