-- The six files that were read from a folder hold what the folder holds.
use Rattle.std.proofs.Common.{ℕ, List, ◌≡◌, Option, map, refl}
use Rattle.ld_base.specs.Outside.{Files}
use Rattle.ld_top.specs.Folder.{all_files, held_by_folder, docs_in, json_faults}
use Rattle.ld_top.specs.Reading.{held_by}

pub docs_of_folder : (files : Files) (folder : List ℕ) (read : List (Option (List ℕ))) → read ≡ map (held_by_folder files folder) all_files → docs_in (held_by read) ≡ docs_in (held_by_folder files folder)
unfolding docs_in
docs_of_folder files folder read is = rw is refl

pub json_of_folder : (files : Files) (folder : List ℕ) (read : List (Option (List ℕ))) → read ≡ map (held_by_folder files folder) all_files → json_faults (held_by read) ≡ json_faults (held_by_folder files folder)
unfolding json_faults
json_of_folder files folder read is = rw is refl
