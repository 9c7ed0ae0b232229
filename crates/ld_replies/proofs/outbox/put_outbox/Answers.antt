use Rattle.ld_state.specs.Notices.{notice_of}
use Rattle.ld_replies.specs.Reports.{notice_lines}
use Rattle.ld_replies.proofs.Listed.{nth_notice, printed_next}
use Rattle.ld_replies.proofs.outbox.put_outbox.Goals as goal

pub put_if_reached-requires-clause-notice : goal.put_if_reached-requires-clause-notice
put_if_reached-requires-clause-notice c =
    nth_notice c.args.unit.now c.args.notices.now c.loop-index.index c.index-notices-index.result c.requires c.loop-index-test.true c.index-notices-index.is

pub loop-index-preserved : goal.loop-index-preserved
loop-index-preserved c =
    printed_next notice_of (notice_lines c.args.unit.now c.args.person.0) c.args.notices.now c.loop-index.index c.index-notices-index.result _ _ _ c.loop-index-test.true c.index-notices-index.is c.loop-index.invariant c.in_ok-put_if_reached.ensures
