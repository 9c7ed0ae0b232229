use Rattle.std.proofs.lemmas.Result.{err_from_is_err_and}
use Rattle.ld_json.specs.Access.{item_nodes}
use Rattle.ld_shape.proofs.Passing.{stop_at}
use Rattle.ld_shape.proofs.lists.read_each.Goals as goal

pub returns-in_err-value : goal.returns-in_err-value
returns-in_err-value g c =
    let failed = err_from_is_err_and c.from_residual-in_err-value.result c.from_residual-in_err-value.ensures.1 in
    rw (failed.1, failed.2)
    (stop_at g.R.Reads.shape (item_nodes c.args.node.now) c.loop-index.index c.item.result c.in_err-value.field-0.0 c.item.ensures.item c.loop-index.invariant.faults c.in_err-value.ensures)
