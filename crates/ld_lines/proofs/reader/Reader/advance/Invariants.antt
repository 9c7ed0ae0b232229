use Rattle.std.proofs.Common.{◌≡◌, ◌≢◌, ◌≤◌, [], ◌+◌, ◌-◌, ◌^◌, length, true}
use Rattle.ld_lines.specs.Lines.{ended_lines_of}
use Rattle.ld_lines.proofs.Handing.{Passed}
use Rattle.ld_lines.proofs.reader.Reader.advance.Given as goal

abbrev pub invariant-loop-self : goal.invariant-loop-self
invariant-loop-self g l =
    Passed l.fn.self.reading (g.S.Source.left l.fn.source) l.self.reading (g.S.Source.left l.source)
    × (g.S.Source.faults l.fn.source ≤ g.S.Source.faults l.source)
    × (l.fn.self.reading.ended ≡ true → l.source ≡ l.fn.source)
    × (l.fn.self.reading.taken ≡ 2 ^ 40 → l.source ≡ l.fn.source)
    × (ended_lines_of l.fn.self.reading.held ≢ [] → (l.source ≡ l.fn.source) × (ended_lines_of l.self.reading.held ≢ []))

abbrev pub decreases-loop-self : goal.decreases-loop-self
decreases-loop-self g l = 2 ^ 40 - l.self.reading.taken + length l.self.reading.held
