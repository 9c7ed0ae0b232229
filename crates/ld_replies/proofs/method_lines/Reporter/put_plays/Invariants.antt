use Rattle.std.proofs.Common.{◌≡◌, ◌+◌, ◌≤◌, drop, fold}
use Rattle.std.specs.List.{flat_map, sum_by}
use Rattle.ld_replies.specs.Printed.{printed_after}
use Rattle.ld_replies.specs.Reports.{report_of_play}
use Rattle.ld_replies.specs.ShownSteps.{play_steps}
use Rattle.ld_replies.proofs.method_lines.Reporter.put_plays.Given as goal

abbrev pub invariant-loop-play : goal.invariant-loop-play
invariant-loop-play g l =
    let unit = l.self.scope.unit.now in
    let seen = g.V.View.seen l.self.scope.view.now in
    (fold printed_after l.lines (flat_map (report_of_play unit seen) (drop l.play-index l.plays))
    ≡ fold printed_after l.fn.lines (flat_map (report_of_play unit seen) l.plays))
    × (l.steps + sum_by play_steps (drop l.play-index l.plays) ≤ l.fn.steps + sum_by play_steps l.plays)
