use Rattle.std.proofs.Common.{List, ℕ, ◌++◌, ap, ◌∙◌}
use Rattle.ld_state.specs.StateView.{run_of}
use Rattle.ld_replies.specs.Reports.{report_lines}
use Rattle.ld_replies.proofs.Told.{counted_told}
use Rattle.ld_replies.proofs.replies.push_report.Goals as goal

pub returns-clause-text : goal.returns-clause-text
returns-clause-text g c =
    let told = counted_told c.new-lines.result c.put_report.new.lines (report_lines c.args.unit.now (run_of c.args.state.now)) c.new-lines.ensures c.in_ok-put_report.ensures.lines in
    let pushed = rw (c.count.ensures, c.as_str.ensures) at c.in_ok-push_counted.ensures.text in
    pushed ∙ ap (λ (t : List ℕ). c.args.out.now.bytes ++ t) told
