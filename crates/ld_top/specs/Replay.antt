-- What a call of `replay FOLDER..` is to have done when it ends.
use Rattle.std.specs.Prelude.{ℕ, List, [], ◌∷◌, ◌≡◌, ◌⊎◌, Option, Result, Ok, Err, ⊤}
use Rattle.ld_base.specs.Outside.{Files, then_piece, AddsPrefix}
use Rattle.ld_json.specs.Fault.{Told}
use Rattle.ld_model.specs.declared.unit.Unit.{Unit}
use Rattle.ld_world.specs.Published.{RefusedFolder, published, refused_line}
use Rattle.ld_world.specs.World.{first_world}
use Rattle.ld_top.specs.Answering.{AnsweredAll, AnsweredTaken, AnsweredCut}
use Rattle.ld_top.specs.InFolder.{IsReading, WhereTold}

-- ---- the folders

-- These are the readings of the folders, one for each.
abbrev pub AreReadings : Files → List (List ℕ) → List (Result Unit Told) → Type 0
AreReadings files [] [] = ⊤
AreReadings files [] (reading ∷ readings) = ⊥
AreReadings files (folder ∷ folders) [] = ⊥
AreReadings files (folder ∷ folders) (reading ∷ readings) =
    IsReading files folder reading × AreReadings files folders readings

-- The units of the folders are published in their order, or the first folder that is refused is this one.
abbrev pub Publishes : Files → List (List ℕ) → Result (List Unit) RefusedFolder → Type 0
Publishes files folders result =
    (readings : List (Result Unit Told)) × AreReadings files folders readings × (published readings ≡ result)

-- The folders' units are published, and from their world on this was done.
abbrev pub FromUnits : Option Files → List (List ℕ) → (List Unit → Type 0) → Type 0
FromUnits files folders Done =
    (units : List Unit) × WhereTold files (λ told. Publishes told folders (Ok units)) × Done units

-- A folder is refused, and of the line that tells which, and for what, this was done.
abbrev pub FromRefusal : Option Files → List (List ℕ) → (List ℕ → Type 0) → Type 0
FromRefusal files folders Done =
    (refused : RefusedFolder) × WhereTold files (λ told. Publishes told folders (Err refused)) × Done (refused_line refused)

-- ---- the ends of the call

-- It was done: the source told its end below 2^40 bytes, and what was written answers all its lines.
abbrev pub ReplayedAll : List (List ℕ) → Option Files → Option (List ℕ) → Option (List ℕ) → Option (List ℕ) → Option (List ℕ) → Type 0
ReplayedAll folders files before left old new =
    FromUnits files folders (λ units. AnsweredAll (first_world units) before left old new)

-- It stopped after this many bytes of the source; what was written answers the lines that were ended in them.
abbrev pub ReplayedTaken : (ℕ → Type 0) → List (List ℕ) → Option Files → Option (List ℕ) → Option (List ℕ) → Option (List ℕ) → Option (List ℕ) → Type 0
ReplayedTaken Many folders files before left old new =
    FromUnits files folders (λ units. AnsweredTaken Many (first_world units) before left old new)

-- A folder is refused, and the one line that tells it was written.
abbrev pub Refused : List (List ℕ) → Option Files → Option (List ℕ) → Option (List ℕ) → Type 0
Refused folders files old new = FromRefusal files folders (λ line. new ≡ then_piece old line)

-- It stopped in the reply to a line: those before it were answered, and a beginning of its own reply was
-- written.
abbrev pub ReplayedCut : List (List ℕ) → Option Files → Option (List ℕ) → Option (List ℕ) → Option (List ℕ) → Option (List ℕ) → Type 0
ReplayedCut folders files before left old new =
    FromUnits files folders (λ units. AnsweredCut (first_world units) before left old new)

-- A folder is refused, a beginning of the one line that tells it was written, and nothing was taken from the
-- source.
abbrev pub RefusedCut : List (List ℕ) → Option Files → Option (List ℕ) → Option (List ℕ) → Option (List ℕ) → Option (List ℕ) → Type 0
RefusedCut folders files before left old new =
    FromRefusal files folders (λ line. AddsPrefix old line new × (left ≡ before))

-- What was written grew by a beginning of what was to be written: the line of a refusal, or the replies.
abbrev pub CutShort : List (List ℕ) → Option Files → Option (List ℕ) → Option (List ℕ) → Option (List ℕ) → Option (List ℕ) → Type 0
CutShort folders files before left old new = RefusedCut folders files before left old new ⊎ ReplayedCut folders files before left old new
