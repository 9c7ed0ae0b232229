-- What cells make of who is told them, one after another. Cells that no firing writes are passed over.
use Rattle.std.specs.Prelude.{◌≡◌, List, [], ◌∷◌, ◌++◌, fold, Option, Some, None, Result, Ok, Err, Bool, false, ⊤, if◌then◌else◌}
use Rattle.std.specs.List.{list_any}
use Rattle.ld_base.specs.Maybe.{◌>>=◌}
use Rattle.ld_model.specs.Cells.{same_cell}
use Rattle.ld_model.specs.declared.cell.CellName.{CellName}
use Rattle.ld_model.specs.declared.unit.Unit.{Unit}
use Rattle.ld_names.specs.declared.rule.Rule.{Rule}
use Rattle.ld_rank.specs.Alone.{is_fed, looks_alone}

-- What was told, with one more cell; none where this cell stops the telling, or one before it did.
abbrev pub then_cell : {T : Type 0} → (T → CellName → Option T) → Option T → CellName → Option T
then_cell after told cell = if is_fed cell then (told >>= λ now. after now cell) else told

-- What was told, with all these cells; none where one of them stops the telling.
abbrev pub told_after : {T : Type 0} → (T → CellName → Option T) → T → List CellName → Option T
told_after after told cells = fold (then_cell after) (Some told) cells

-- Cells are put with this answer: now they all are told; or one of them stopped the telling, unless it failed.
abbrev pub Tells : {T Stop : Type 0} → Bool → Option T → Result ⊤ Stop → T → Type 0
Tells can_fail told (Ok _) now = told ≡ Some now
Tells can_fail told (Err _) now = can_fail ≡ false → told ≡ None

-- ---- who is told

-- The cells are listed.
abbrev pub listed_after : List CellName → CellName → Option (List CellName)
listed_after cells cell = Some (cells ++ cell ∷ [])

-- A cell is sought until it is told.
abbrev pub sought_after : CellName → CellName → Option CellName
sought_after sought cell = if same_cell sought cell then None else Some sought

-- A rule of a unit, in a run of one person.
pub record RuleAlone : Type 0 where
  pub unit : Unit
  pub rule : Rule

-- The rule looks at the cell.
abbrev pub looks_at : RuleAlone → CellName → Bool
looks_at alone cell = list_any (same_cell cell) (looks_alone alone.unit alone.rule)

-- A rule is waited for that looks at a cell that is told.
abbrev pub awaited_after : RuleAlone → CellName → Option RuleAlone
awaited_after alone cell = if looks_at alone cell then None else Some alone
