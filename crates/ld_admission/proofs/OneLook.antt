-- What is found is looked at in one cell.
use Rattle.std.proofs.Common.{◌≤◌, [], ◌∷◌, length, Option, Some, None, arith}
use Rattle.ld_expr.specs.Lookup.{list_from}
use Rattle.ld_model.specs.declared.cell.CellName.{CellName}

-- One cell, if something is found.
pub one_look : {A : Type 0} → (cell : A → CellName) (found : Option A) → length (list_from (λ x. cell x ∷ []) found) ≤ 1
one_look cell None = omega arith
one_look cell (Some x) = omega arith
