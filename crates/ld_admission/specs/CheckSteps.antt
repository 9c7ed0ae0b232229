-- How many cells of a run the checks of a command read at most.
use Rattle.std.specs.Prelude.{ℕ}
use Rattle.ld_lines.specs.declared.command.RunCommand.{RunCommand}
use Rattle.ld_lines.specs.declared.command.RunCommand.TheVariants.{Enrol, Assign, Set, Clear}

-- Each command asks for the moment of the last one, each but `enrol` and `assign` also whether the run is
-- started, and those that write a property whether the person is a member of the property's role.
abbrev pub check_steps : RunCommand → ℕ
check_steps (Enrol _) = 1
check_steps (Assign _ _) = 1
check_steps (Set _ _ _) = 3
check_steps (Clear _ _) = 3
check_steps _ = 2
