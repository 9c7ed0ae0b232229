use Rattle.std.proofs.Common.{◌≡◌, ◌+◌, ◌*◌, drop}
use Rattle.serde_json.specs.Data.{depth}
use Rattle.ld_formats.specs.Tests.{test}
use Rattle.ld_json.specs.Access.{item_nodes}
use Rattle.ld_shape.proofs.Passing.{then_read}
use Rattle.ld_shape.specs.Lists.{each}
use Rattle.ld_method.proofs.test_forms.+tests.Given as goal

abbrev pub decreases-read_test : goal.decreases-read_test
decreases-read_test l = 2 * depth l.node.now.tree + 1

abbrev pub decreases-read_one : goal.decreases-read_one
decreases-read_one l = 2 * depth l.node.now.tree

abbrev pub decreases-read_of_members : goal.decreases-read_of_members
decreases-read_of_members l = 2 * depth l.node.now.tree + 1

abbrev pub decreases-expression_at : goal.decreases-expression_at
decreases-expression_at l = 2 * depth l.node.now.tree

abbrev pub decreases-read_tests : goal.decreases-read_tests
decreases-read_tests l = 2 * depth l.node.now.tree + 1

abbrev pub invariant-read_tests-loop-index : goal.invariant-read_tests-loop-index
invariant-read_tests-loop-index l = record {
  faults : (each test (drop l.index (item_nodes l.node))).faults ≡ (each test (item_nodes l.node)).faults;
  value : then_read l.tests (each test (drop l.index (item_nodes l.node))).value ≡
      (each test (item_nodes l.node)).value;
}
