use Rattle.std.proofs.Common.{◌≡◌, drop}
use Rattle.ld_json.specs.Access.{item_nodes}
use Rattle.ld_shape.specs.Lists.{each}
use Rattle.ld_shape.proofs.Passing.{then_read}
use Rattle.ld_shape.proofs.lists.read_each.Given as goal

abbrev pub invariant-loop-index : goal.invariant-loop-index
invariant-loop-index g l = record {
  faults : (each g.R.Reads.shape (drop l.index (item_nodes l.node))).faults ≡ (each g.R.Reads.shape (item_nodes l.node)).faults;
  value : then_read l.values.items (each g.R.Reads.shape (drop l.index (item_nodes l.node))).value ≡ (each g.R.Reads.shape (item_nodes l.node)).value;
}
