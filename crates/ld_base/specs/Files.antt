-- What contracts see of a shelf in memory: a list of files, of which the first of a name counts.
use Rattle.std.specs.Prelude.{ℕ, List, Bool, ◌&&◌, option_map}
use Rattle.std.specs.List.{find}
use Rattle.std.specs.Str.{bytes_eq}
use Rattle.ld_base.specs.Calls.{CallState}
use Rattle.ld_base.specs.Outside.{Files}
use Rattle.ld_base.specs.declared.file.File.{File}

-- The files of a shelf, and the calls on it, of which some are to fail.
pub record ShelfState : Type 0 where
  pub files : List File
  pub calls : CallState

-- Whether the file stands in this folder and has this name.
abbrev pub is_named : List ℕ → List ℕ → File → Bool
is_named folder name file = bytes_eq file.folder.bytes folder && bytes_eq file.file.bytes name

-- The files as a map: the bytes of the first one in that folder and of that name.
abbrev pub map_of_files : List File → Files
map_of_files files folder name = option_map (λ file. file.bytes) (find (is_named folder name) files)
