use Rattle.std.proofs.Common.{◌≡◌, ◌≤◌, ◌-◌, ◌^◌}
use Rattle.ld_lines.proofs.Cuts.{Passing}
use Rattle.ld_lines.proofs.reader.Reader.pass_rest.Given as goal

abbrev pub invariant-loop-count : goal.invariant-loop-count
invariant-loop-count g l =
    Passing l.fn.self.reading (g.S.Source.left l.fn.source) l.self.reading (g.S.Source.left l.source)
    × (g.S.Source.faults l.fn.source ≤ g.S.Source.faults l.source)
    × (l.fn.self.reading.taken ≡ 2 ^ 40 → l.source ≡ l.fn.source)

abbrev pub decreases-loop-count : goal.decreases-loop-count
decreases-loop-count g l = 2 ^ 40 - l.self.reading.taken
