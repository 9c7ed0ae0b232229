-- Commands of a run, as the checks leave them.
use Rattle.std.specs.Prelude.{ℕ, List}
use Rattle.ld_value.specs.Datum.{Datum}
use Rattle.ld_model.specs.declared.cell.CellName.{CellName}

-- What a command is once it is admitted: persons, roles and activities by their numbers, properties by the
-- cells in which they stand. A person who joins has a name alone.
pub data Admitted : Type 0 where
  enrols : List ℕ → Admitted
  assigns : ℕ → ℕ → Admitted
  drops : ℕ → ℕ → Admitted
  starts : Admitted
  opens : ℕ → ℕ → Admitted
  completes : ℕ → ℕ → Admitted
  sets : CellName → Datum → Admitted
  clears : CellName → Admitted
  gets : CellName → Admitted
  shows_tree : ℕ → Admitted
  shows_outbox : ℕ → Admitted
  reports : Admitted
  ticks : Admitted
  shows_next : Admitted
