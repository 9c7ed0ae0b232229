-- Which status a replay ends with where nothing of the outside failed: the folders and the input tell it, but that
-- memory may run out.
use Rattle.std.specs.Prelude.{ℕ, List, [], ◌∷◌, ◌++◌, ◌≡◌, ◌<◌, ◌≤◌, ◌^◌, length, Option, Some, Result, Ok, Err, ⊤}
use Rattle.ld_base.specs.Outside.{Files, Rose}
use Rattle.ld_json.specs.Fault.{Told}
use Rattle.ld_model.specs.declared.unit.Unit.{Unit}
use Rattle.ld_world.specs.Published.{RefusedFolder}
use Rattle.ld_top.specs.Endings.{IsOneOf}
use Rattle.ld_top.specs.InFolder.{IsReading}
use Rattle.ld_top.specs.Replay.{Publishes}
use Rattle.ld_top.specs.Tasks.{Task, replays, reports, generates}

-- The count of faults did not rise, and does not stand at its last value.
abbrev pub DidNotFail : ℕ → ℕ → Type 0
DidNotFail before now = Rose before now → ⊥

-- ---- replay FOLDER..

-- The units of these folders are published, and the input is these bytes.
pub record IsGiven (folders : List (List ℕ)) (files : Option Files) (left : Option (List ℕ)) (bytes : List ℕ) : Type 0 where
  pub told : Files
  pub units : List Unit
  pub are_told : files ≡ Some told
  pub published : Publishes told folders (Ok units)
  pub input : left ≡ Some bytes

-- Where all units are published, the status is 0 for an input of fewer than 2^40 bytes and 8 for any other; or it is
-- 7, and memory ran out.
pub record EndsWell (folders : List (List ℕ)) (files : Option Files) (left : Option (List ℕ)) (status : ℕ) : Type 0 where
  pub fewer : (bytes : List ℕ) → IsGiven folders files left bytes → length bytes < 2 ^ 40 → IsOneOf (0 ∷ 7 ∷ []) status
  pub others : (bytes : List ℕ) → IsGiven folders files left bytes → 2 ^ 40 ≤ length bytes → IsOneOf (8 ∷ 7 ∷ []) status

-- Where a folder is refused, the status is 4; or it is 7, and memory ran out.
pub record EndsRefused (folders : List (List ℕ)) (files : Option Files) (status : ℕ) : Type 0 where
  pub ends : (told : Files) (refused : RefusedFolder) → files ≡ Some told → Publishes told folders (Err refused) → IsOneOf (4 ∷ 7 ∷ []) status

-- Where 2^40 bytes were taken, the status is 8.
abbrev pub EndsAtLimit : Option (List ℕ) → Option (List ℕ) → ℕ → Type 0
EndsAtLimit before now status =
    (taken rest : List ℕ) → before ≡ Some (taken ++ rest) → now ≡ Some rest → length taken ≡ 2 ^ 40 → status ≡ 8

-- ---- check FOLDER, canon FOLDER, rank FOLDER

-- Where the folder has a unit, the status is 0; or it is 7, and memory ran out.
abbrev pub ReportEndsWell : List ℕ → Option Files → ℕ → Type 0
ReportEndsWell folder files status =
    (told : Files) (unit : Unit) → files ≡ Some told → IsReading told folder (Ok unit) → IsOneOf (0 ∷ 7 ∷ []) status

-- Where the folder has a fault, the status is 4; or it is 7, and memory ran out.
abbrev pub ReportEndsRefused : List ℕ → Option Files → ℕ → Type 0
ReportEndsRefused folder files status =
    (told : Files) (fault : Told) → files ≡ Some told → IsReading told folder (Err fault) → IsOneOf (4 ∷ 7 ∷ []) status

-- ---- whatever is asked

-- Nothing stands in the way of the task.
abbrev pub TaskEndsWell : Option Files → Option (List ℕ) → ℕ → Task → Type 0
TaskEndsWell files left status (replays folders) = EndsWell folders files left status
TaskEndsWell files left status (reports report folder) = ReportEndsWell folder files status
TaskEndsWell files left status (generates number persons) = IsOneOf (0 ∷ 7 ∷ []) status

-- A folder is refused; what reads no folder refuses none.
abbrev pub TaskEndsRefused : Option Files → ℕ → Task → Type 0
TaskEndsRefused files status (replays folders) = EndsRefused folders files status
TaskEndsRefused files status (reports report folder) = ReportEndsRefused folder files status
TaskEndsRefused files status (generates number persons) = ⊤

-- ---- the files alone tell what is published

-- The same folders publish the same units, or are refused for the same fault.
abbrev pub FoldersPublishOneThing : Type 0
FoldersPublishOneThing =
    (files : Files) (folders : List (List ℕ)) (one other : Result (List Unit) RefusedFolder)
    → Publishes files folders one → Publishes files folders other → one ≡ other
