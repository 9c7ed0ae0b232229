use Rattle.std.proofs.Common.{◌≡◌, drop}
use Rattle.ld_expr.specs.Owners.{mark_owner, of_person}
use Rattle.ld_firing.specs.ActionCells.{actions_cells}
use Rattle.ld_rank.specs.Telling.{told_after}
use Rattle.ld_rank.proofs.writes.put_actions.Given as goal

abbrev pub invariant-loop-action : goal.invariant-loop-action
invariant-loop-action g l =
    told_after g.S.CellSink.after (g.S.CellSink.told l.cells) (actions_cells l.unit 1 (mark_owner l.kind (of_person 0)) (drop l.action-index l.actions)) ≡ told_after g.S.CellSink.after (g.S.CellSink.told l.fn.cells) (actions_cells l.unit 1 (mark_owner l.kind (of_person 0)) l.actions)
