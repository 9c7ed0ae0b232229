-- Folders whose units are published one after the other.
use Rattle.std.proofs.Common.{ℕ, ◌+◌, ◌<◌, ◌≤◌, List, [], ◌∷◌, ◌++◌, ◌≡◌, length, drop, get_or, Option, Some, None, Result, Ok, Err, slice_get, String, string_bytes, refl, sym, ap, ◌∙◌, inl, inr}
use Rattle.std.proofs.lemmas.List.{drop_all, drop_more}
use Rattle.std.specs.declared.alloc.Global.{Global}
use Rattle.ld_base.specs.Outside.{Files}
use Rattle.ld_json.specs.Fault.{Told, first_of}
use Rattle.ld_json.specs.declared.docs.Docs.{Docs}
use Rattle.ld_formats.specs.Units.{unit as unit_shape}
use Rattle.ld_model.specs.declared.unit.Unit.{Unit}
use Rattle.ld_shape.specs.Reading.{ValueOrFaults}
use Rattle.ld_world.specs.Published.{RefusedFolder, published, published_from, faults_beside}
use Rattle.ld_top.specs.Folder.{docs_in, document_faults, folder_faults, held_by_folder, json_faults, presence_faults, shape_faults, unit_of, unit_of_folder, faults_of_unit}
use Rattle.ld_top.specs.InFolder.{IsReading}
use Rattle.ld_top.specs.Reading.{AddsUnit, IsRefusedFor}
use Rattle.ld_top.specs.Replay.{AreReadings, Publishes}
use Rattle.ld_words.specs.Words.{words_of}

-- ---- every folder has a reading

none_first : {A : Type 0} (these those : List A) → these ++ those ≡ [] → these ≡ []
none_first [] those none = refl
none_first (x ∷ these) those none = absurd (cc none)

none_last : {A : Type 0} (these those : List A) → these ++ those ≡ [] → those ≡ []
none_last [] those none = none
none_last (x ∷ these) those none = absurd (cc none)

value_there : {A : Type 0} (value : Option A) (faults : List Told) → ValueOrFaults value faults → faults ≡ [] → (x : A) × (value ≡ Some x)
value_there (Some x) faults agree none = (x, refl)
value_there None [] agree none = absurd agree
value_there None (fault ∷ more) agree none = absurd (cc none)

-- Documents in which nothing is wrong stand for a unit.
unit_there : (docs : Docs) → document_faults docs ≡ [] → (x : Unit) × (unit_of docs ≡ Some x)
unfolding document_faults shape_faults unit_of
unit_there docs none =
    let reading = unit_shape.reading docs in
    value_there reading.value reading.faults reading.agree (none_first (shape_faults docs) (faults_of_unit (unit_of docs)) none)

unit_in_folder : (files : Files) (folder : List ℕ) → folder_faults files folder ≡ [] → (x : Unit) × (unit_of_folder files folder ≡ Some x)
unfolding folder_faults unit_of_folder
unit_in_folder files folder none =
    let held = held_by_folder files folder in
    unit_there (docs_in held) (none_last (json_faults held) _ (none_last (presence_faults held) _ none))

-- A folder is read to a unit or to a first fault.
pub some_reading : (files : Files) (folder : List ℕ) → (reading : Result Unit Told) × IsReading files folder reading
some_reading files folder = by (folder_faults files folder) refl
  where
    by : (faults : List Told) → folder_faults files folder ≡ faults → (reading : Result Unit Told) × IsReading files folder reading
    by [] none = let found = unit_in_folder files folder none in (Ok found.0, (found.1, none))
    by (fault ∷ more) some = (Err fault, ap first_of some)

some_readings : (files : Files) (folders : List (List ℕ)) → (readings : List (Result Unit Told)) × AreReadings files folders readings
some_readings files [] = ([], tt)
some_readings files (folder ∷ folders) =
    let first = some_reading files folder in
    let rest = some_readings files folders in
    (first.0 ∷ rest.0, (first.1, rest.1))

-- ---- on from some folders

-- What the folders publish behind these units, where the first of them has this number.
abbrev pub PublishesFrom : ℕ → List Unit → Files → List (List ℕ) → Result (List Unit) RefusedFolder → Type 0
PublishesFrom n units files folders result =
    (readings : List (Result Unit Told)) × AreReadings files folders readings × (published_from n units readings ≡ result)

-- What a unit with these faults beside those before it publishes.
abbrev beside : ℕ → List Unit → Unit → List (Result Unit Told) → List Told → Result (List Unit) RefusedFolder
beside n units unit readings faults =
    elim (slice_get faults 0) as (λ _. Result (List Unit) RefusedFolder) [
      | None ↦ published_from (n + 1) (units ++ unit ∷ []) readings
      | Some fault ↦ Err (record { folder = n; fault = fault })
    ]

pub publishes : (files : Files) (folders : List (List ℕ)) (result : Result (List Unit) RefusedFolder) → PublishesFrom 1 [] files folders result → Publishes files folders result
unfolding published
publishes files folders result from = from

-- One folder more, whose unit is published.
publishes_more : (n : ℕ) (old new : List Unit) (files : Files) (folder : List ℕ) (folders : List (List ℕ)) (result : Result (List Unit) RefusedFolder) → AddsUnit files folder old new → PublishesFrom (n + 1) new files folders result → PublishesFrom n old files (folder ∷ folders) result
publishes_more n old new files folder folders result (unit, reading, none, is) (readings, are, gives) = (
  Ok unit ∷ readings,
  (reading, are),
  ap (beside n old unit readings) none ∙ ap (λ units. published_from (n + 1) units readings) (sym is) ∙ gives,
)

-- A folder that is refused; those behind it are read to something.
refused_here : (n : ℕ) (units : List Unit) (files : Files) (folder : List ℕ) (folders : List (List ℕ)) (fault : Told) → IsRefusedFor files folder units fault → PublishesFrom n units files (folder ∷ folders) (Err (record { folder = n; fault = fault }))
refused_here n units files folder folders fault (inl reading) =
    let rest = some_readings files folders in
    (Err fault ∷ rest.0, (reading, rest.1), refl)
refused_here n units files folder folders fault (inr (unit, reading, first)) =
    let rest = some_readings files folders in
    (Ok unit ∷ rest.0, (reading, rest.1), by rest.0 (faults_beside units unit) first)
  where
    by : (readings : List (Result Unit Told)) (faults : List Told) → first_of faults ≡ Some fault → beside n units unit readings faults ≡ Err (record { folder = n; fault = fault })
    by readings [] is = absurd (cc is)
    by readings (found ∷ more) is = let same : found ≡ fault = cc is in ap (λ told. Err (record { folder = n; fault = told })) same

-- ---- at one of the folders of a call

-- Behind the last folder.
pub publishes_all : (files : Files) (folders : List (String Global)) (index : ℕ) (units : List Unit) → length folders ≤ index → PublishesFrom (index + 1) units files (words_of (drop index folders)) (Ok units)
publishes_all files folders index units over = rw (drop_all index folders over) ([], tt, refl)

-- The unit of the folder is published.
pub added_at : (files : Files) (folders : List (String Global)) (index : ℕ) (d : String Global) (old new : List Unit) (result : Result (List Unit) RefusedFolder) → index < length folders → AddsUnit files (string_bytes (get_or folders index d)) old new → PublishesFrom (index + 1 + 1) new files (words_of (drop (index + 1) folders)) result → PublishesFrom (index + 1) old files (words_of (drop index folders)) result
added_at files folders index d old new result there adds from =
    rw (drop_more folders index d there) (publishes_more (index + 1) old new files (string_bytes (get_or folders index d)) (words_of (drop (index + 1) folders)) result adds from)

-- The folder is refused.
pub refused_at : (files : Files) (folders : List (String Global)) (index : ℕ) (d : String Global) (units : List Unit) (fault : Told) → index < length folders → IsRefusedFor files (string_bytes (get_or folders index d)) units fault → PublishesFrom (index + 1) units files (words_of (drop index folders)) (Err (record { folder = index + 1; fault = fault }))
refused_at files folders index d units fault there refused =
    rw (drop_more folders index d there) (refused_here (index + 1) units files (string_bytes (get_or folders index d)) (words_of (drop (index + 1) folders)) fault refused)
