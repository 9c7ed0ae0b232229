use Rattle.ld_lines.proofs.Cuts.{CutsOff-more}
use Rattle.ld_lines.proofs.reader.Reader.next_piece.Goals as goal

pub returns-then-seen-gt-LINE_LIMIT-clause-cuts : goal.returns-then-seen-gt-LINE_LIMIT-clause-cuts
returns-then-seen-gt-LINE_LIMIT-clause-cuts g c = CutsOff-more _ c.loop-at.invariant.0 c.pass_rest.ensures.cuts
