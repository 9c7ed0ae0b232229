-- The moment of a command line.
use Rattle.ld_value.specs.declared.moment.Moment.{Moment}
use Rattle.ld_lines.specs.declared.line.Line.{Line}
use Rattle.ld_lines.specs.declared.line.Line.TheVariants.{Create, OfRun, GlobalSet, GlobalGet}

-- The moment that the line carries.
abbrev pub moment_of_line : Line → Moment
moment_of_line (Create moment run unit) = moment
moment_of_line (OfRun moment run command) = moment
moment_of_line (GlobalSet moment uri person value) = moment
moment_of_line (GlobalGet moment uri person) = moment
