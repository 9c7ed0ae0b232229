-- A folder was refused.
use Rattle.std.proofs.Common.{refl, ℕ, List, ◌≡◌, Option, Err, inl}
use Rattle.ld_base.specs.Outside.{Files, then_piece, AddsPrefix}
use Rattle.ld_world.specs.Published.{RefusedFolder, refused_line}
use Rattle.ld_top.specs.InFolder.{WhereTold}
use Rattle.ld_top.specs.Replay.{Publishes, Refused, CutShort}

-- The line that tells the refusal was written.
pub refused_for : (folders : List (List ℕ)) (files : Option Files) (old new : Option (List ℕ)) (refused : RefusedFolder) → WhereTold files (λ told. Publishes told folders (Err refused)) → new ≡ then_piece old (refused_line refused) → Refused folders files old new
refused_for folders files old new refused told written = (refused, told, written)

-- It was begun.
pub cut_for : (folders : List (List ℕ)) (files : Option Files) (left old new : Option (List ℕ)) (refused : RefusedFolder) → WhereTold files (λ told. Publishes told folders (Err refused)) → AddsPrefix old (refused_line refused) new → CutShort folders files left left old new
cut_for folders files left old new refused told adds = inl (refused, told, (adds, refl))
