use Rattle.std.proofs.Common.{◌≡◌, ◌+◌, ◌*◌, drop}
use Rattle.serde_json.specs.Data.{depth}
use Rattle.ld_json.specs.Access.{item_nodes}
use Rattle.ld_formats.specs.Roles.{inner_role}
use Rattle.ld_shape.specs.Lists.{each}
use Rattle.ld_shape.specs.Recursion.{shape_of}
use Rattle.ld_shape.proofs.Passing.{then_read}
use Rattle.ld_reader.proofs.roles.+roles.Given as goal

abbrev pub decreases-read_inner : goal.decreases-read_inner
decreases-read_inner l = 4 * depth l.node.now.tree + 2

abbrev pub decreases-read_one : goal.decreases-read_one
decreases-read_one l = 4 * depth l.node.now.tree + 1

abbrev pub decreases-roles_at : goal.decreases-roles_at
decreases-roles_at l = 4 * depth l.node.now.tree

abbrev pub decreases-read_roles : goal.decreases-read_roles
decreases-read_roles l = 4 * depth l.node.now.tree + 3

abbrev pub decreases-read_each : goal.decreases-read_each
decreases-read_each l = 4 * depth l.node.now.tree + 2

abbrev pub invariant-read_each-loop-index : goal.invariant-read_each-loop-index
invariant-read_each-loop-index l = record {
  faults : (each (shape_of (inner_role l.kind)) (drop l.index (item_nodes l.node))).faults ≡ (each (shape_of (inner_role l.kind)) (item_nodes l.node)).faults;
  value : then_read l.roles.items (each (shape_of (inner_role l.kind)) (drop l.index (item_nodes l.node))).value ≡ (each (shape_of (inner_role l.kind)) (item_nodes l.node)).value;
}
