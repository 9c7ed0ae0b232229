-- What the program's world means.
use Rattle.std.specs.Prelude.{◌≡◌, ℕ, List, map}
use Rattle.std.specs.List.{AllByRecursion}
use Rattle.std.specs.Option.{option_map}
use Rattle.ld_model.specs.declared.unit.Unit.{Unit}
use Rattle.ld_globals.specs.Store.{Store, declared_at}
use Rattle.ld_roles.specs.declared.limit.TheConstants.{SEATS}
use Rattle.ld_state.specs.GlobalValues.{declared_by}
use Rattle.ld_state.specs.StateView.{run_of}
use Rattle.ld_sharing.specs.Current.{IsCurrentAsOf}
use Rattle.ld_sharing.specs.StoreView.{Serves, declaration_by, values_of}
use Rattle.ld_run.specs.RunView.{RunView}
use Rattle.ld_world.specs.World.{RunOf, WorldState}

-- The published units, the store, and the runs under their names, as the code keeps them.
pub record WorldView : Type 0 where
  pub units : List Unit
  pub store : Store
  pub runs : List (List ℕ × RunView)

-- A run under its name.
abbrev pub run_named_so : List ℕ × RunView → RunOf
run_named_so entry = record { name = entry.0; unit = entry.1.unit; state = run_of entry.1.state }

-- The world of these units, this store and these runs.
abbrev pub world_with : List Unit → Store → List (List ℕ × RunView) → WorldState
world_with units store runs = record {
  seats = SEATS;
  units = units;
  store = values_of store;
  runs = map run_named_so runs;
}

-- The world for which the published units, the store and the runs of the code stand.
abbrev pub world_of : WorldView → WorldState
world_of w = world_with w.units w.store w.runs

-- ---- what is always so

-- The store declares what the units declare, each uri as the first of them does.
abbrev pub IsStoreOf : List Unit → Store → Type 0
IsStoreOf units store = (uri : List ℕ) → declared_at store uri ≡ option_map declaration_by (declared_by units uri)

-- The store serves each unit.
abbrev pub ServesAll : Store → List Unit → Type 0
ServesAll store units = AllByRecursion (Serves store) units

-- The store serves the unit of each run.
abbrev pub ServesRuns : Store → List (List ℕ × RunView) → Type 0
ServesRuns store runs = AllByRecursion (λ entry. Serves store entry.1.unit) runs

-- Each run has the store's values as of its stamp.
abbrev pub AreCurrent : Store → List (List ℕ × RunView) → Type 0
AreCurrent store runs =
    AllByRecursion (λ entry. IsCurrentAsOf entry.1.unit (run_of entry.1.state) entry.1.stamp store) runs
