use Rattle.std.proofs.Common.{◌≡◌, drop, map}
use Rattle.ld_model.specs.declared.condition.Action.TheVariants.{Change as ChangeAction}
use Rattle.ld_expr.specs.Owners.{mark_owner, of_person}
use Rattle.ld_firing.specs.ActionCells.{actions_cells}
use Rattle.ld_rank.specs.Telling.{told_after}
use Rattle.ld_rank.proofs.writes.put_changes.Given as goal

abbrev pub invariant-loop-change : goal.invariant-loop-change
invariant-loop-change g l =
    told_after g.S.CellSink.after (g.S.CellSink.told l.cells) (actions_cells l.unit 1 (mark_owner l.kind (of_person 0)) (map ChangeAction (drop l.change-index l.changes))) ≡ told_after g.S.CellSink.after (g.S.CellSink.told l.fn.cells) (actions_cells l.unit 1 (mark_owner l.kind (of_person 0)) (map ChangeAction l.changes))
