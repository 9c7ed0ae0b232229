-- What is found in a folder of a shelf, where the shelf tells its files.
use Rattle.std.specs.Prelude.{ℕ, List, [], Option, Some, Result, Ok, Err, ◌≡◌}
use Rattle.ld_base.specs.Outside.{Files}
use Rattle.ld_json.specs.Fault.{Told, first_of}
use Rattle.ld_model.specs.declared.unit.Unit.{Unit}
use Rattle.ld_top.specs.Folder.{folder_faults, unit_of_folder}

-- This holds of the files, where the shelf tells them.
abbrev pub WhereTold : Option Files → (Files → Type 0) → Type 0
WhereTold told Holds = (files : Files) → told ≡ Some files → Holds files

-- The folder is read to its unit, where it has no fault, and else to its first fault.
abbrev pub IsReading : Files → List ℕ → Result Unit Told → Type 0
IsReading files folder (Ok unit) = (unit_of_folder files folder ≡ Some unit) × (folder_faults files folder ≡ [])
IsReading files folder (Err fault) = first_of (folder_faults files folder) ≡ Some fault
