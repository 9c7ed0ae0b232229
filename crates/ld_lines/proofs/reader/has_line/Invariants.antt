use Rattle.std.proofs.Common.{◌≡◌, length}
use Rattle.ld_lines.specs.Lines.{ended_lines_of}
use Rattle.ld_lines.proofs.reader.has_line.Given as goal

abbrev pub invariant-pieces : goal.invariant-pieces
invariant-pieces l = ended_lines_of l.fn.bytes ≡ ended_lines_of l.rest

abbrev pub decreases-pieces : goal.decreases-pieces
decreases-pieces l = length l.rest
