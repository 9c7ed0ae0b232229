-- How many steps the lines of a call may take, once the folders' units are published.
use Rattle.std.specs.Prelude.{◌≡◌, ℕ, List, Option, ⊤}
use Rattle.ld_base.specs.Outside.{Files}
use Rattle.ld_keeping.specs.Working.{WorkedKeeping}
use Rattle.ld_world.specs.Counting.{WorkedAll}
use Rattle.ld_world.specs.World.{first_world}
use Rattle.ld_world.specs.WorldView.{WorldView, world_of}
use Rattle.ld_top.specs.Replay.{FromUnits}
use Rattle.ld_top.specs.Tasks.{Task, replays, reports, generates}

-- The folders' units are published, and from their world on, as the code keeps it, this was done.
abbrev pub FromView : Option Files → List (List ℕ) → (WorldView → Type 0) → Type 0
FromView files folders Done =
    FromUnits files folders (λ units. (world : WorldView) × (world_of world ≡ first_world units) × Done world)

-- All lines of the source were answered, with no more steps than they may take.
abbrev pub WorkedReplay : List (List ℕ) → Option Files → (source before written : Option (List ℕ)) → (begun ended : ℕ) → Type 0
WorkedReplay folders files source before written begun ended =
    FromView files folders (λ world. WorkedAll world source before written begun ended)

-- The same over a journal: its lines, and then those of the source.
abbrev pub WorkedKeep : Option Files → (file source before written : Option (List ℕ)) → (begun ended : ℕ) → List (List ℕ) → Type 0
WorkedKeep files file source before written begun ended folders =
    FromView files folders (λ world. WorkedKeeping file world source before written begun ended)

-- The same of a task. A report takes no step; of the steps of the generator's lines nothing is said.
abbrev pub TaskWorked : Option Files → (source before written : Option (List ℕ)) → (begun ended : ℕ) → Task → Type 0
TaskWorked files source before written begun ended (replays folders) = WorkedReplay folders files source before written begun ended
TaskWorked files source before written begun ended (reports report folder) = ended ≡ begun
TaskWorked files source before written begun ended (generates number persons) = ⊤
