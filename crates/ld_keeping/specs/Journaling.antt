-- What a journal holds once lines were kept in it, and what a crash may have left of it meanwhile.
use Rattle.std.specs.Prelude.{ℕ, ◌+◌, ◌<◌, ◌^◌, List, [], ◌∷◌, ◌++◌, length, Option, IfSome, option_map, ◌≡◌}
use Rattle.ld_keep.specs.Disk.{DiskModel, OnHonest, LeavesOnly}
use Rattle.ld_keep.specs.Journal.{kept_on}
use Rattle.ld_keep.specs.Kept.{kept_lines, last_gate, KeepsOrAdds}

-- The lines with more of them after them, where they are told.
abbrev pub then_lines : Option (List (List ℕ)) → List (List ℕ) → Option (List (List ℕ))
then_lines lines more = option_map (λ before. before ++ more) lines

-- How many bytes the records of these lines take.
abbrev pub size_of_records : List (List ℕ) → ℕ
size_of_records [] = 0
size_of_records (line ∷ lines) = 5 + length line + size_of_records lines

-- The file keeps the old lines, and then some first ones of these.
abbrev pub KeepsSome : List (List ℕ) → List (List ℕ) → List ℕ → Type 0
KeepsSome old accepted file =
    (front : List (List ℕ)) × (back : List (List ℕ)) × (accepted ≡ front ++ back) × (kept_lines file ≡ old ++ front)

-- From the one moment to the other these lines were kept. The journal has them now after the old ones, and so has each
-- image; at any moment a crash left the old lines and some first ones of these.
pub record HasKept {D : Type 0} (disk : DiskModel D) (old new : D) (done : List (List ℕ)) : Type 0 where
  pub lines : kept_on (disk.bytes new) ≡ then_lines (kept_on (disk.bytes old)) done
  pub room : IfSome (disk.bytes old) (λ file. last_gate file + size_of_records done < 2 ^ 40)
  pub images : OnHonest disk old (λ file. (image : List ℕ) → disk.may_leave new image → kept_lines image ≡ kept_lines file ++ done)
  pub moments : OnHonest disk old (λ file. LeavesOnly disk old new (KeepsSome (kept_lines file) done))

-- The same, but the disk failed while one more line was kept: that one may be there, or not.
pub record HasKeptBut {D : Type 0} (disk : DiskModel D) (old new : D) (done : List (List ℕ)) (last : List ℕ) : Type 0 where
  pub images : OnHonest disk old (λ file. (image : List ℕ) → disk.may_leave new image → KeepsOrAdds (kept_lines file ++ done) last image)
  pub moments : OnHonest disk old (λ file. LeavesOnly disk old new (KeepsSome (kept_lines file) (done ++ last ∷ [])))

-- No line was kept, and none is lost.
abbrev pub LosesNone : {D : Type 0} → DiskModel D → D → D → Type 0
LosesNone disk old new = OnHonest disk old (λ file. LeavesOnly disk old new (λ image. kept_lines image ≡ kept_lines file))
