-- How many steps lines may take, each in the world in which it is answered.
use Rattle.std.specs.Prelude.{◌≡◌, ℕ, ◌+◌, List, [], ◌∷◌, ◌++◌, Option, Some, None, Bool, true, false, ◌&&◌, option_map, if◌then◌else◌}
use Rattle.std.specs.Map.{lookup}
use Rattle.std.specs.Option.{option_map_or}
use Rattle.std.specs.Str.{bytes_eq}
use Rattle.ld_globals.specs.Store.{KeepsWrites, Store}
use Rattle.ld_lines.specs.declared.command.RunCommand.{RunCommand}
use Rattle.ld_lines.specs.declared.line.Line.{Line}
use Rattle.ld_lines.specs.declared.line.Line.TheVariants.{Create, OfRun, GlobalSet, GlobalGet}
use Rattle.ld_model.specs.declared.unit.Unit.{Unit}
use Rattle.ld_value.specs.declared.moment.Moment.{Moment}
use Rattle.ld_sharing.specs.StoreView.{shared_count}
use Rattle.ld_run.specs.CommandWork.{command_steps}
use Rattle.ld_run.specs.RunView.{RunView}
use Rattle.ld_run.specs.declared.reply.Reply.{Reply}
use Rattle.ld_run.specs.declared.reply.Reply.TheVariants.{Done, Refused, NoMemory}
use Rattle.ld_world.specs.Answers.{RepliesTo, line_of}
use Rattle.ld_world.specs.World.{unit_named}
use Rattle.ld_world.specs.WorldView.{WorldView, world_of}

-- ---- one line

-- Making a run of the unit of this identifier: one step for each property of it of which the store has one value.
unfoldable pub making_steps : List Unit → List ℕ → ℕ
making_steps units id = option_map_or (λ unit. shared_count unit false) (unit_named units id) 0

-- Asking the run of this name: the steps of the command in that run, over this store.
unfoldable pub asking_steps : Store → List (List ℕ × RunView) → Moment → List ℕ → RunCommand → ℕ
asking_steps store runs moment name command =
    option_map_or (λ run. command_steps run store moment.0 command) (lookup (bytes_eq name) runs) 0

-- A line: what it asks for. What is no command line takes no step.
abbrev pub line_steps : WorldView → Option Line → ℕ
line_steps w None = 0
line_steps w (Some (Create moment run unit)) = making_steps w.units unit
line_steps w (Some (OfRun moment run command)) = asking_steps w.store w.runs moment run command
line_steps w (Some (GlobalSet moment uri person text)) = 0
line_steps w (Some (GlobalGet moment uri person)) = 1

-- ---- which stamps the runs have

-- The stamp of the run of this name, if there is one.
abbrev pub stamp_of : List (List ℕ × RunView) → List ℕ → Option ℕ
stamp_of runs name = option_map (λ run. run.stamp) (lookup (bytes_eq name) runs)

-- The reply says that the line was done.
abbrev pub tells_done : Reply → Bool
tells_done (Done totals) = true
tells_done (Refused number) = false
tells_done NoMemory = false

-- The line makes the run of this name, or asks it for something.
abbrev pub is_for : List ℕ → Option Line → Bool
is_for name None = false
is_for name (Some (Create moment run unit)) = bytes_eq run name
is_for name (Some (OfRun moment run command)) = bytes_eq run name
is_for name (Some (GlobalSet moment uri person text)) = false
is_for name (Some (GlobalGet moment uri person)) = false

-- The run that was made, or whose command was done, has the stamp of the store. Each other run keeps its own.
abbrev pub StampsAfter : List (List ℕ × RunView) → Option Line → Reply → ℕ → List (List ℕ × RunView) → Type 0
StampsAfter old line reply stamp new =
    (name : List ℕ) → stamp_of new name ≡ (if tells_done reply && is_for name line then Some stamp else stamp_of old name)

-- ---- lines one after the other

-- The text answers the line in the old world and leaves the new one, with what the store's keys were written since,
-- and with the runs' stamps.
pub record TakesLine (old : WorldView) (line : Option Line) (text : List ℕ) (new : WorldView) : Type 0 where
  pub reply : Reply
  pub replies : RepliesTo (world_of old) line reply text (world_of new)
  pub stamps : StampsAfter old.runs line reply new.store.stamp new.runs
  pub writes : KeepsWrites old.store new.store

-- The text answers the lines one after the other, and leads from the old world to the new one. So many steps may they
-- take: the sum over the lines, each in the world in which it is answered.
abbrev pub TakesLines : WorldView → List (List ℕ) → List ℕ → ℕ → WorldView → Type 0
TakesLines old [] text most new = (text ≡ []) × (most ≡ 0) × (new ≡ old)
TakesLines old (line ∷ lines) text most new =
    (first : List ℕ) × (rest : List ℕ) × (mid : WorldView) × (more : ℕ)
    × (text ≡ first ++ rest) × (most ≡ line_steps old (line_of line) + more)
    × TakesLine old (line_of line) first mid × TakesLines mid lines rest more new
