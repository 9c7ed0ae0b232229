-- How lines are borrowed for as long as one of them is looked at.
use Rattle.std.specs.Prelude.{⊤}
use Rattle.std.specs.Borrow.{MutBor, Fml}
use mathlib.Core.Option.{none}
use denote.Follow.{follows_so}
use Rattle.ld_lines.specs.Reading.{LinesRead}
use Rattle.ld_lines.specs.contracts.lines.Lines.{the_row}

-- A line is lent, and this holds of the reading that the lines have once it is given back.
abbrev pub LendsLine : MutBor LinesRead → (LinesRead → Type 0) → Fml
LendsLine lines Leaving = follows_so the_row the_row lines.ghost_name none (λ _ _. ⊤) Leaving
