-- Words for reading the files of folders and for publishing their units.
use Rattle.std.specs.Prelude.{◌≡◌, ◌⊎◌, ℕ, List, [], ◌∷◌, ◌++◌, Option, Some, Ok, Err, slice_get, ⊤}
use Rattle.std.specs.List.{flat_map}
use Rattle.ld_base.specs.Maybe.{◌>>=◌}
use Rattle.ld_base.specs.Outside.{Files}
use Rattle.ld_json.specs.declared.file.FileNo.{FileNo}
use Rattle.ld_json.specs.Fault.{Told, told_by, first_of}
use Rattle.ld_json.specs.Files.{file_index}
use Rattle.ld_model.specs.declared.unit.Unit.{Unit}
use Rattle.ld_world.specs.Published.{faults_beside}
use Rattle.ld_top.specs.declared.publish.PublishStop.{PublishStop}
use Rattle.ld_top.specs.declared.publish.PublishStop.TheVariants.{ShelfFault as Unread, Refused as RefusedAt, NoMemory as Unstored}
use Rattle.ld_top.specs.declared.reader.stop.FolderStop.{FolderStop}
use Rattle.ld_top.specs.declared.reader.stop.FolderStop.TheVariants.{ShelfFault, Refused, NoMemory}
use Rattle.ld_top.specs.Folder.{Held, docs_in, document_faults, json_fault, json_faults, shape_faults}
use Rattle.ld_top.specs.InFolder.{IsReading}
use Rattle.ld_top.specs.Replay.{Publishes}

-- What a list of the six files in their order holds.
abbrev pub held_by : List (Option (List ℕ)) → Held
held_by files file = slice_get files (file_index file) >>= λ found. found

-- The faults of these files as JSON.
unfoldable pub json_faults_of : List FileNo → Held → List Told
json_faults_of files held = flat_map (λ file. json_fault file (held file)) files

-- The faults of the files as JSON, and those of their documents' shapes.
unfoldable pub form_faults : Held → List Told
form_faults held = json_faults held ++ shape_faults (docs_in held)

-- The faults of what the files hold.
unfoldable pub content_faults : Held → List Told
content_faults held = json_faults held ++ document_faults (docs_in held)

-- The first of these faults is what the reading stopped at, so there is one. A failed shelf, or memory that
-- ran out, says nothing.
abbrev pub StopsAtFirst : List Told → FolderStop → Type 0
StopsAtFirst faults ShelfFault = ⊤
StopsAtFirst faults (Refused fault) = first_of faults ≡ Some (told_by fault)
StopsAtFirst faults NoMemory = ⊤

-- ---- one folder after others

-- The unit of the folder comes behind these units, and nothing is wrong with it beside them.
abbrev pub AddsUnit : Files → List ℕ → List Unit → List Unit → Type 0
AddsUnit files folder old new =
    (unit : Unit) × IsReading files folder (Ok unit) × (faults_beside old unit ≡ []) × (new ≡ old ++ unit ∷ [])

-- The folder is refused beside these units: this is its first fault, or it has none, and this is the first
-- of its unit beside them.
abbrev pub IsRefusedFor : Files → List ℕ → List Unit → Told → Type 0
IsRefusedFor files folder units fault =
    IsReading files folder (Err fault)
    ⊎ ((unit : Unit) × IsReading files folder (Ok unit) × (first_of (faults_beside units unit) ≡ Some fault))

-- What the publishing of one folder beside these units stopped at. A failed shelf, or memory that ran out,
-- says nothing.
abbrev pub StopsBeside : Files → List ℕ → List Unit → FolderStop → Type 0
StopsBeside files folder units ShelfFault = ⊤
StopsBeside files folder units (Refused fault) = IsRefusedFor files folder units (told_by fault)
StopsBeside files folder units NoMemory = ⊤

-- The same of the folders: one of them is refused.
abbrev pub StopsAtFolder : Files → List (List ℕ) → PublishStop → Type 0
StopsAtFolder files folders Unread = ⊤
StopsAtFolder files folders (RefusedAt number fault) =
    Publishes files folders (Err (record { folder = number; fault = told_by fault }))
StopsAtFolder files folders Unstored = ⊤
