-- What the words ask of a call, and what the call is to have done of it when it ends.
use Rattle.std.specs.Prelude.{ℕ, List, ◌≡◌, Option, Some, None, ⊤}
use Rattle.ld_base.specs.Maybe.{◌>>=◌}
use Rattle.ld_base.specs.Outside.{AddsPrefix, Files, then_piece}
use Rattle.ld_generator.specs.Tallies.{generated_line}
use Rattle.ld_words.specs.Forms.{Form, replay_form, check_form, canon_form, rank_form, keep_form, gen_form, form_in}
use Rattle.ld_top.specs.declared.report.Report.{Report}
use Rattle.ld_top.specs.declared.report.Report.TheVariants.{Check, Canon, Rank}
use Rattle.ld_top.specs.Replay.{CutShort, Refused, ReplayedAll, ReplayedTaken}
use Rattle.ld_top.specs.Reports.{ReportCut, Reported, ReportRefused}

-- What a call does.
pub data Task : Type 0 where
  -- The units of the folders are published, and lines are answered.
  replays : List (List ℕ) → Task
  -- A report on the unit of the folder is printed.
  reports : Report → List ℕ → Task
  -- The lines that the number chooses for so many persons are answered, and what they come to is printed.
  generates : ℕ → ℕ → Task

-- What is asked by words of the form; none where the call knows no such form.
abbrev pub task_of : Form → Option Task
task_of (replay_form folders) = Some (replays folders)
task_of (check_form folder) = Some (reports Check folder)
task_of (canon_form folder) = Some (reports Canon folder)
task_of (rank_form folder) = Some (reports Rank folder)
task_of (keep_form _) = None
task_of (gen_form number persons) = Some (generates number persons)

-- What is asked by the words.
abbrev pub task_in : List (List ℕ) → Option Task
task_in words = form_in words >>= task_of

-- The folders whose lines are to be kept, where the form asks for that.
abbrev pub folders_of_keep : Form → Option (List (List ℕ))
folders_of_keep (replay_form _) = None
folders_of_keep (check_form _) = None
folders_of_keep (canon_form _) = None
folders_of_keep (rank_form _) = None
folders_of_keep (keep_form folders) = Some folders
folders_of_keep (gen_form _ _) = None

-- The same of the words.
abbrev pub keep_in : List (List ℕ) → Option (List (List ℕ))
keep_in words = form_in words >>= folders_of_keep

-- Something is asked, and this holds of it.
abbrev pub OfAsked : {A : Type 0} → Option A → (A → Type 0) → Type 0
OfAsked None Holds = ⊥
OfAsked (Some asked) Holds = Holds asked

-- The task wants no input.
abbrev pub WantsNoInput : Task → Type 0
WantsNoInput (replays _) = ⊥
WantsNoInput (reports _ _) = ⊤
WantsNoInput (generates _ _) = ⊤

-- ---- the ends of a call

-- The task was done.
abbrev pub TaskDone : Option Files → Option (List ℕ) → Option (List ℕ) → Option (List ℕ) → Option (List ℕ) → Task → Type 0
TaskDone files before left old new (replays folders) = ReplayedAll folders files before left old new
TaskDone files before left old new (reports report folder) = Reported report folder files old new
TaskDone files before left old new (generates number persons) =
    new ≡ then_piece old (generated_line number persons)

-- A folder is refused, and the one line that tells it was written. What reads no folder refuses none.
abbrev pub TaskRefused : Option Files → Option (List ℕ) → Option (List ℕ) → Task → Type 0
TaskRefused files old new (replays folders) = Refused folders files old new
TaskRefused files old new (reports report folder) = ReportRefused folder files old new
TaskRefused files old new (generates number persons) = ⊥

-- It stopped after this many bytes of the source. What wants no input takes none.
abbrev pub TaskStopped : (ℕ → Type 0) → Option Files → Option (List ℕ) → Option (List ℕ) → Option (List ℕ) → Option (List ℕ) → Task → Type 0
TaskStopped Many files before left old new (replays folders) = ReplayedTaken Many folders files before left old new
TaskStopped Many files before left old new (reports report folder) = ⊥
TaskStopped Many files before left old new (generates number persons) = ⊥

-- What was written grew by a beginning of what was to be written.
abbrev pub TaskCut : Option Files → Option (List ℕ) → Option (List ℕ) → Option (List ℕ) → Option (List ℕ) → Task → Type 0
TaskCut files before left old new (replays folders) = CutShort folders files before left old new
TaskCut files before left old new (reports report folder) = ReportCut report folder files old new
TaskCut files before left old new (generates number persons) =
    AddsPrefix old (generated_line number persons) new
