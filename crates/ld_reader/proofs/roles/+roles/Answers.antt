use Rattle.std.proofs.Common.{arith, ◌<◌, ◌∙◌, codes, sym}
use Rattle.std.proofs.lemmas.Result.{err_from_is_err_and}
use Rattle.serde_json.specs.Data.{depth}
use Rattle.ld_json.specs.Access.{item_nodes}
use Rattle.ld_formats.specs.Roles.{inner_role}
use Rattle.ld_shape.specs.Recursion.{shape_of}
use Rattle.ld_shape.proofs.Depths.{depth-at, depth-member}
use Rattle.ld_shape.proofs.Passing.{pass_faults, pass_value, stop_at}
use Rattle.ld_reader.proofs.roles.+roles.Goals as goal

pub read_each-read_inner-requires : goal.read_each-read_inner-requires
read_each-read_inner-requires t c =
    let less : depth c.item.result.tree < depth c.args.node.now.tree = depth-at c.loop-index.index c.args.node.now.tree c.item.result.tree c.item.ensures.tree in
    omega arith

pub read_each-loop-index-preserved : goal.read_each-loop-index-preserved
read_each-loop-index-preserved t c = record {
  faults = pass_faults (shape_of (inner_role c.args.kind)) (item_nodes c.args.node.now) c.loop-index.index c.item.result _ c.item.ensures.item c.in_ok-role.ensures.faultless c.loop-index.invariant.faults;
  value = rw c.in_ok-push.ensures.items (pass_value (shape_of (inner_role c.args.kind)) (item_nodes c.args.node.now) c.loop-index.index c.item.result c.loop-index.roles.items c.in_ok-role.role _ c.item.ensures.item c.in_ok-role.ensures.value c.loop-index.invariant.value);
}

pub read_each-returns-in_err-role-clause-first : goal.read_each-returns-in_err-role-clause-first
read_each-returns-in_err-role-clause-first t c =
    let failed = err_from_is_err_and c.from_residual.result c.from_residual.ensures.1 in
    rw (failed.1, failed.2)
    (stop_at (shape_of (inner_role c.args.kind)) (item_nodes c.args.node.now) c.loop-index.index c.item.result c.in_err-role.field-0.0 c.item.ensures.item c.loop-index.invariant.faults c.in_err-role.ensures)

pub roles_at-read_roles-requires : goal.roles_at-read_roles-requires
roles_at-read_roles-requires t c =
    let less : depth c.in-Some.list.tree < depth c.args.node.now.tree = depth-member c.args.node.now c.in-Some.list (codes "roles") (sym c.optional.ensures.node ∙ c.in-Some.is) in
    (omega arith, tt)
