-- How many cells of a run are read at most for what is told of a command.
use Rattle.std.specs.Prelude.{ℕ, ◌+◌, length}
use Rattle.std.specs.List.{sum_by}
use Rattle.ld_model.specs.declared.method.Act.{Act}
use Rattle.ld_model.specs.declared.method.Play.{Play}
use Rattle.ld_model.specs.declared.unit.Unit.{Unit}
use Rattle.ld_state.specs.RunState.{RunState, seen_in}
use Rattle.ld_tree.specs.TreeLooks.{tree_looks}
use Rattle.ld_admission.specs.Commands.{Admitted, gets, shows_tree, reports}

-- An act: when it was opened, and whether it and each of its role-parts is done.
abbrev pub act_steps : Act → ℕ
act_steps act = 2 + length act.role_parts

-- A play: whether it is done, and its acts.
abbrev pub play_steps : Play → ℕ
play_steps play = 1 + sum_by act_steps play.acts

-- A report: when the run was started, its plays, and whether the unit is done. Of roles and notices no cell is read.
abbrev pub report_steps : Unit → ℕ
report_steps unit = 2 + sum_by play_steps unit.method.plays

-- The value that is asked for, all at which the person's tree looks, or a report. Of other commands nothing
-- is told that stands in a cell.
abbrev pub shown_steps : Unit → RunState → Admitted → ℕ
shown_steps unit s (gets cell) = 1
shown_steps unit s (shows_tree p) = length (tree_looks unit (seen_in unit s) p)
shown_steps unit s reports = report_steps unit
shown_steps unit s _ = 0
