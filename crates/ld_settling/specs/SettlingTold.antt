-- What a settling tells of a run.
use Rattle.std.specs.Prelude.{◌≡◌, ℕ, ◌<◌, ◌⊎◌, List, length, Contains}
use Rattle.ld_model.specs.declared.unit.Unit.{Unit}
use Rattle.ld_state.specs.RunCells.{all_cells}
use Rattle.ld_state.specs.RunState.{RunState}
use Rattle.ld_firing.specs.RunSystem.{content_of}

-- From one state to the next, of the same persons, nothing changed but in the slots that were told meanwhile, of which
-- each is a slot of the run. (A mark has a slot as other cells have.)
pub record TellsSlots (unit : Unit) (s t : RunState) (before told : List ℕ) : Type 0 where
  pub persons : t.persons ≡ s.persons
  pub seats : t.seats ≡ s.seats
  pub kept : (k : ℕ) → Contains before k → Contains told k
  pub slots : (k : ℕ) → Contains told k → Contains before k ⊎ (k < length (all_cells unit (length s.persons)))
  pub untold : (k : ℕ) → (Contains told k → ⊥) → content_of unit s k ≡ content_of unit t k
