use Rattle.std.proofs.Common.{◌≡◌, ◌&&◌, ◌||◌, ℕ, drop, nat_eq}
use Rattle.std.specs.List.{list_any}
use Rattle.ld_model.specs.Cells.{same_cell}
use Rattle.ld_model.specs.declared.cell.CellName.{CellName}
use Rattle.ld_rank.specs.Lookers.{is_at}
use Rattle.ld_rank.proofs.lookers.Lookers.add_all.Given as goal

abbrev pub invariant-loop-cell : goal.invariant-loop-cell
invariant-loop-cell l =
    (q : CellName) (b : ℕ) → (is_at l.self q b || (nat_eq l.rule b && list_any (same_cell q) (drop l.cell-index l.cells))) ≡ (is_at l.fn.self q b || (nat_eq l.rule b && list_any (same_cell q) l.cells))
