use Rattle.std.proofs.Common.{◌≡◌, ◌+◌, ◌*◌, drop}
use Rattle.serde_json.specs.Data.{depth}
use Rattle.ld_json.specs.Access.{item_nodes}
use Rattle.ld_formats.specs.Terms.{term}
use Rattle.ld_shape.specs.Lists.{each}
use Rattle.ld_shape.proofs.Passing.{then_read}
use Rattle.ld_reader.proofs.terms.+terms.Given as goal

abbrev pub decreases-read_term : goal.decreases-read_term
decreases-read_term l = 5 * depth l.node.now.tree + 4

abbrev pub decreases-read_one : goal.decreases-read_one
decreases-read_one l = 5 * depth l.node.now.tree + 3

abbrev pub decreases-sum_at : goal.decreases-sum_at
decreases-sum_at l = 5 * depth l.node.now.tree + 2

abbrev pub decreases-product_at : goal.decreases-product_at
decreases-product_at l = 5 * depth l.node.now.tree + 2

abbrev pub decreases-difference_at : goal.decreases-difference_at
decreases-difference_at l = 5 * depth l.node.now.tree + 2

abbrev pub decreases-quotient_at : goal.decreases-quotient_at
decreases-quotient_at l = 5 * depth l.node.now.tree + 2

abbrev pub decreases-terms_at : goal.decreases-terms_at
decreases-terms_at l = 5 * depth l.node.now.tree + 1

abbrev pub decreases-pair_at : goal.decreases-pair_at
decreases-pair_at l = 5 * depth l.node.now.tree + 1

abbrev pub decreases-read_terms : goal.decreases-read_terms
decreases-read_terms l = 5 * depth l.node.now.tree + 4

abbrev pub decreases-read_each : goal.decreases-read_each
decreases-read_each l = 5 * depth l.node.now.tree + 3

abbrev pub decreases-read_pair : goal.decreases-read_pair
decreases-read_pair l = 5 * depth l.node.now.tree + 4

abbrev pub invariant-read_each-loop-index : goal.invariant-read_each-loop-index
invariant-read_each-loop-index l = record {
  faults : (each term (drop l.index (item_nodes l.node))).faults ≡ (each term (item_nodes l.node)).faults;
  value : then_read l.terms.items (each term (drop l.index (item_nodes l.node))).value ≡ (each term (item_nodes l.node)).value;
}
