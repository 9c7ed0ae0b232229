-- What is known of a run before it changes, of which the count of steps makes use.
use Rattle.std.specs.Prelude.{◌≡◌, ℕ, ◌<◌, List, length, Contains, ⊤}
use Rattle.ld_model.specs.declared.unit.Unit.{Unit}
use Rattle.ld_roles.specs.declared.limit.TheConstants.{SEATS}
use Rattle.ld_state.specs.RunCells.{all_cells}
use Rattle.ld_state.specs.RunState.{RunState}
use Rattle.ld_firing.specs.RunSystem.{IsSoundRun, content_of}
use Rattle.ld_settling.specs.RunLinking.{AreCleanLinks, RunWiring}
use Rattle.ld_run.specs.declared.settling.Relinking.{Relinking}
use Rattle.ld_run.specs.declared.settling.Relinking.TheVariants.{Told, ToldPersons, Renewed}

-- Each slot that was told, and that the earlier state has, has another value in the later one.
abbrev pub TellsChanges : Unit → RunState → RunState → List ℕ → Type 0
TellsChanges unit s t told =
    (k : ℕ) → Contains told k → k < length (all_cells unit (length s.persons)) → content_of unit s k ≡ content_of unit t k → ⊥

-- The links were clean in the state before the change, and nothing but what changed was told.
pub record WereClean (unit : Unit) (before now : RunState) (told : List ℕ) (links : RunWiring) : Type 0 where
  pub sound : IsSoundRun unit before
  pub seats : before.seats ≡ SEATS
  pub clean : AreCleanLinks unit before links
  pub tells : TellsChanges unit before now told

-- So they were, where they are not renewed; and there were this many persons.
abbrev pub MayCount : Relinking → Unit → RunState → RunState → List ℕ → RunWiring → Type 0
MayCount Told unit before now told links = WereClean unit before now told links
MayCount (ToldPersons count) unit before now told links = (length before.persons ≡ count) × WereClean unit before now told links
MayCount Renewed unit before now told links = ⊤
