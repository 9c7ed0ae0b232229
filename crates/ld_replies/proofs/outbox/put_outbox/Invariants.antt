use Rattle.std.proofs.Common.{◌≡◌, drop, fold}
use Rattle.ld_model.specs.Counting.{each_numbered, each_numbered_from}
use Rattle.ld_state.specs.Notices.{notices_of}
use Rattle.ld_replies.specs.Printed.{printed_after}
use Rattle.ld_replies.specs.Reports.{notice_lines}
use Rattle.ld_replies.proofs.outbox.put_outbox.Given as goal

abbrev pub invariant-loop-index : goal.invariant-loop-index
invariant-loop-index l =
    fold printed_after l.lines (each_numbered_from (notice_lines l.unit l.person.0) l.index (drop l.index (notices_of l.notices)))
    ≡ fold printed_after l.fn.lines (each_numbered (notice_lines l.fn.unit l.fn.person.0) (notices_of l.fn.notices))
