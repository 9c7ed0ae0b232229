-- What the recorded writes mean: the cells as they were before them.
use Rattle.std.specs.Prelude.{ℕ, List, [], ◌∷◌, Option, set, take, All, IfSome, IfNone, vec_len, vec_capacity, ◌≤◌, ◌<◌, ◌^◌, ◌≡◌}
use Rattle.std.specs.Global.{Vec}
use Rattle.ld_value.specs.Datum.{Datum}
use Rattle.ld_value.specs.declared.value.Value.{Value}
use Rattle.ld_cells.specs.Stored.{Kept, held}
use Rattle.ld_cells.specs.declared.change.Change.{Change}
use Rattle.ld_cells.specs.declared.savepoint.Savepoint.{Savepoint}

-- The cells as they were before the writes, which are listed from the first to the last.
abbrev pub before : List Change → List (Option Datum) → List (Option Datum)
before [] cells = cells
before (change ∷ later) cells = set (before later cells) change.slot (held change.before)

-- What is kept at the savepoint: the cells of then, as they were before the writes, and the spare.
abbrev pub kept_at : List Change → List (Option Datum) → Savepoint → Kept
kept_at changes cells savepoint = record { cells = before changes (take savepoint.cells cells); spare = savepoint.spare }

-- All writes are to cells that are counted.
abbrev pub AreBelow : ℕ → List Change → Type 0
AreBelow count changes = All (λ change. change.slot < count) changes

-- The writes are to cells that there were at the savepoint, and these are still there; and once all are taken
-- back, there is at least as much spare as at the savepoint.
pub record IsUnder (values : Vec (Option Value)) (changes : Vec Change) (savepoint : Savepoint) : Type 0 where
  pub slots : AreBelow savepoint.cells changes.items
  pub there : savepoint.cells ≤ vec_len values
  pub spare : savepoint.spare ≤ vec_capacity changes

-- What is always so of the cells, the recorded writes and the savepoint: slots are numbers of 32 bits, and writes
-- are recorded under a savepoint alone.
pub record IsSound (values : Vec (Option Value)) (changes : Vec Change) (savepoint : Option Savepoint) : Type 0 where
  pub few : vec_len values < 2 ^ 32
  pub under : IfSome savepoint (IsUnder values changes)
  pub none : IfNone savepoint (changes.items ≡ [])
