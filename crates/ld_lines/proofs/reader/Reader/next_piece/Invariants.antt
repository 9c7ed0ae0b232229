use Rattle.std.proofs.Common.{◌≡◌, ◌≤◌, ◌-◌, ◌^◌, length, take}
use Rattle.ld_lines.specs.Lines.{HasNoFeed}
use Rattle.ld_lines.specs.Cutting.{Fetches}
use Rattle.ld_lines.proofs.reader.Reader.next_piece.Given as goal

abbrev pub invariant-loop-at : goal.invariant-loop-at
invariant-loop-at g l =
    Fetches l.fn.self.reading (g.S.Source.left l.fn.source) l.self.reading (g.S.Source.left l.source)
    × (l.seen ≤ length l.self.reading.held)
    × HasNoFeed (take l.seen l.self.reading.held)
    × (l.self.reading.taken ≤ 2 ^ 40)
    × (g.S.Source.faults l.fn.source ≤ g.S.Source.faults l.source)
    × (l.fn.self.reading.taken ≡ 2 ^ 40 → l.source ≡ l.fn.source)
    × ((HasNoFeed l.fn.self.reading.held → ⊥) → (l.source ≡ l.fn.source) × (l.self.reading ≡ l.fn.self.reading))

abbrev pub decreases-loop-at : goal.decreases-loop-at
decreases-loop-at g l = 2 ^ 40 - l.self.reading.taken
