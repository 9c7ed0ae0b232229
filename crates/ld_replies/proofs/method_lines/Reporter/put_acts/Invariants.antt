use Rattle.std.proofs.Common.{◌≡◌, ◌+◌, ◌≤◌, drop, fold}
use Rattle.std.specs.List.{flat_map, sum_by}
use Rattle.ld_replies.specs.Printed.{printed_after}
use Rattle.ld_replies.specs.Reports.{report_of_act}
use Rattle.ld_replies.specs.ShownSteps.{act_steps}
use Rattle.ld_replies.proofs.method_lines.Reporter.put_acts.Given as goal

abbrev pub invariant-loop-act : goal.invariant-loop-act
invariant-loop-act g l =
    let unit = l.self.scope.unit.now in
    let seen = g.V.View.seen l.self.scope.view.now in
    (fold printed_after l.lines (flat_map (report_of_act unit seen) (drop l.act-index l.acts))
    ≡ fold printed_after l.fn.lines (flat_map (report_of_act unit seen) l.acts))
    × (l.steps + sum_by act_steps (drop l.act-index l.acts) ≤ l.fn.steps + sum_by act_steps l.acts)
