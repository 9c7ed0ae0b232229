use Rattle.std.proofs.Common.{◌≡◌, ◌+◌, ◌≤◌, [], ◌∷◌, drop, fold, length}
use Rattle.std.specs.List.{flat_map}
use Rattle.ld_replies.specs.Printed.{printed_after}
use Rattle.ld_replies.specs.Reports.{report_of_part}
use Rattle.ld_replies.proofs.method_lines.Reporter.put_parts.Given as goal

abbrev pub invariant-loop-part : goal.invariant-loop-part
invariant-loop-part g l =
    let unit = l.self.scope.unit.now in
    let seen = g.V.View.seen l.self.scope.view.now in
    (fold printed_after l.lines (flat_map (λ part. report_of_part unit seen l.act part ∷ []) (drop l.part-index l.part-items))
    ≡ fold printed_after l.fn.lines (flat_map (λ part. report_of_part unit seen l.act part ∷ []) l.part-items))
    × (l.steps + length (drop l.part-index l.part-items) ≤ l.fn.steps + length l.part-items)
