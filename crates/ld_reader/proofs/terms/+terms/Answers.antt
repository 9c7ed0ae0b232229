use Rattle.std.proofs.Common.{arith, ◌<◌}
use Rattle.std.proofs.lemmas.Result.{err_from_is_err_and}
use Rattle.serde_json.specs.Data.{depth}
use Rattle.ld_json.specs.Access.{item_nodes}
use Rattle.ld_formats.specs.Terms.{term}
use Rattle.ld_shape.proofs.Depths.{depth-at, depth-get}
use Rattle.ld_shape.proofs.Passing.{pass_faults, pass_value, stop_at}
use Rattle.ld_reader.proofs.terms.+terms.Goals as goal

pub read_each-read_term-requires : goal.read_each-read_term-requires
read_each-read_term-requires t c =
    let less : depth c.item.result.tree < depth c.args.node.now.tree = depth-at c.loop-index.index c.args.node.now.tree c.item.result.tree c.item.ensures.tree in
    omega arith

pub read_each-loop-index-preserved : goal.read_each-loop-index-preserved
read_each-loop-index-preserved t c = record {
  faults = pass_faults term (item_nodes c.args.node.now) c.loop-index.index c.item.result _ c.item.ensures.item c.in_ok-term.ensures.faultless c.loop-index.invariant.faults;
  value = rw c.in_ok-push.ensures.items (pass_value term (item_nodes c.args.node.now) c.loop-index.index c.item.result c.loop-index.terms.items c.in_ok-term.term _ c.item.ensures.item c.in_ok-term.ensures.value c.loop-index.invariant.value);
}

pub read_each-returns-in_err-term-clause-first : goal.read_each-returns-in_err-term-clause-first
read_each-returns-in_err-term-clause-first t c =
    let failed = err_from_is_err_and c.from_residual.result c.from_residual.ensures.1 in
    rw (failed.1, failed.2)
    (stop_at term (item_nodes c.args.node.now) c.loop-index.index c.item.result c.in_err-term.field-0.0 c.item.ensures.item c.loop-index.invariant.faults c.in_err-term.ensures)

pub read_pair-read_term-requires : goal.read_pair-read_term-requires
read_pair-read_term-requires t c =
    let less : depth c.item.result.tree < depth c.args.node.now.tree = depth-at 0 c.args.node.now.tree c.item.result.tree c.item.ensures.tree in
    (omega arith, tt)

pub read_pair-read_term-requires-2 : goal.read_pair-read_term-requires-2
read_pair-read_term-requires-2 t c =
    let less : depth c.item-2.result.tree < depth c.args.node.now.tree = depth-at 1 c.args.node.now.tree c.item-2.result.tree c.item-2.ensures.tree in
    (omega arith, tt)

pub terms_at-read_terms-requires : goal.terms_at-read_terms-requires
terms_at-read_terms-requires t c =
    let less : depth c.in_ok-list.list.tree < depth c.args.node.now.tree = depth-get c.args.name.now c.args.node.now.tree c.in_ok-list.list.tree c.in_ok-list.ensures.tree in
    (omega arith, tt)

pub pair_at-read_pair-requires : goal.pair_at-read_pair-requires
pair_at-read_pair-requires t c =
    let less : depth c.in_ok-pair.pair.tree < depth c.args.node.now.tree = depth-get c.args.name.now c.args.node.now.tree c.in_ok-pair.pair.tree c.in_ok-pair.ensures.tree in
    (omega arith, tt)
