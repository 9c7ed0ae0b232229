-- Lines that are kept one after the other.
use Rattle.std.proofs.Common.{◌≡◌, ℕ, ◌+◌, ◌≤◌, ◌<◌, ◌^◌, List, [], ◌∷◌, ◌++◌, length, Option, Some, None, IfSome, IsTrue, option_map, refl, sym, ap, subst, inl, inr, ◌∙◌, arith, append_assoc, append-nil}
use Rattle.ld_keep.specs.Disk.{DiskModel, IsLawful, OnHonest, Only, IsSettled, LeavesOnly}
use Rattle.ld_keep.specs.Journal.{IsAtRest, kept_on, then_line}
use Rattle.ld_keep.specs.Kept.{kept_lines, last_gate, KeepsOrAdds}
use Rattle.ld_keep.proofs.Moments.{begins, leaves_more, leaves_on}
use Rattle.ld_keep.proofs.Told.{told, where_told, told_more}
use Rattle.ld_keeping.specs.Journaling.{then_lines, size_of_records, KeepsSome, HasKept, HasKeptBut, LosesNone}

-- ---- files and lists of lines

-- The file of a disk that has kept these lines since it held another one.
pub record Holds (now : Option (List ℕ)) (lines : List (List ℕ)) : Type 0 where
  pub file : List ℕ
  pub is : now ≡ Some file
  pub keeps : kept_lines file ≡ lines

pub holds : (before now : Option (List ℕ)) (done : List (List ℕ)) (file : List ℕ) → kept_on now ≡ then_lines (kept_on before) done → before ≡ Some file → Holds now (kept_lines file ++ done)
holds before None done file kept is =
    let some : then_lines (kept_on before) done ≡ Some (kept_lines file ++ done) = ap (λ (o : Option (List ℕ)). then_lines (kept_on o) done) is in
    absurd (cc (kept, some))
holds before (Some now) done file kept is =
    let some : then_lines (kept_on before) done ≡ Some (kept_lines file ++ done) = ap (λ (o : Option (List ℕ)). then_lines (kept_on o) done) is in
    record { file = now; is = refl; keeps = cc (kept, some) }

lines_none : (lines : Option (List (List ℕ))) → lines ≡ then_lines lines []
lines_none None = refl
lines_none (Some lines) = ap Some (sym (append-nil lines))

lines_one : (lines : Option (List (List ℕ))) (line : List ℕ) → then_line lines line ≡ then_lines lines (line ∷ [])
lines_one None line = refl
lines_one (Some lines) line = refl

lines_more : (before mid now : Option (List (List ℕ))) (done more : List (List ℕ)) → mid ≡ then_lines before done → now ≡ then_lines mid more → now ≡ then_lines before (done ++ more)
lines_more None mid now done more first second = second ∙ ap (λ (o : Option (List (List ℕ))). then_lines o more) first
lines_more (Some before) mid now done more first second =
    second ∙ ap (λ (o : Option (List (List ℕ))). then_lines o more) first ∙ ap Some (append_assoc before done more)

pub size_of_records-more : (done more : List (List ℕ)) → size_of_records (done ++ more) ≡ size_of_records done + size_of_records more
size_of_records-more [] more = omega arith
size_of_records-more (line ∷ done) more = omega (arith, size_of_records-more done more)

-- some of the first lines are some of all
some_more : (old done more : List (List ℕ)) (image : List ℕ) → KeepsSome old done image → KeepsSome old (done ++ more) image
some_more old done more image (front, back, parts, keeps) =
    (front, back ++ more, ap (λ (ls : List (List ℕ)). ls ++ more) parts ∙ append_assoc front back more, keeps)

-- and so are all of the first with some of the others
some_after : (old done more : List (List ℕ)) (image : List ℕ) → KeepsSome (old ++ done) more image → KeepsSome old (done ++ more) image
some_after old done more image (front, back, parts, keeps) =
    (done ++ front, back, ap (λ (ls : List (List ℕ)). done ++ ls) parts ∙ sym (append_assoc done front back), keeps ∙ append_assoc old done front)

some_of_one : (old : List (List ℕ)) (line image : List ℕ) → KeepsOrAdds old line image → KeepsSome old (line ∷ []) image
some_of_one old line image (inl same) = ([], line ∷ [], refl, same ∙ sym (append-nil old))
some_of_one old line image (inr more) = (line ∷ [], [], refl, more)

-- ---- one call

module _ {D : Type 0} (disk : DiskModel D) (lawful : IsLawful disk) where
  settled_image : (d : D) → IsSettled disk d → IsTrue (disk.tells_images d) → (file image : List ℕ) → disk.bytes d ≡ Some file → disk.may_leave d image → image ≡ file
  settled_image d settled honest file image is left = (told (disk.bytes d) (Only (disk.may_leave d)) (settled honest) file is image).0 left

  -- nothing is lost before the first call
  pub loses_none_yet : (d : D) → IsSettled disk d → LosesNone disk d d
  loses_none_yet d settled honest =
      where_told (disk.bytes d) (λ file. LeavesOnly disk d d (λ image. kept_lines image ≡ kept_lines file)) (λ file is.
      begins disk d (λ image. kept_lines image ≡ kept_lines file) lawful (λ image left. ap kept_lines (settled_image d settled honest file image is left)))

  -- no line is kept where nothing is called
  pub kept_none : (d : D) (place : ℕ) → IsSettled disk d → IfSome (disk.bytes d) (IsAtRest place) → place < 2 ^ 40 → HasKept disk d d []
  kept_none d place settled rests below = record {
    lines = lines_none (kept_on (disk.bytes d));
    room = told_more (disk.bytes d) (IsAtRest place) (λ file. last_gate file + 0 < 2 ^ 40) rests (λ file at. omega (arith, at.gate, below));
    images = λ honest. where_told (disk.bytes d) (λ file. (image : List ℕ) → disk.may_leave d image → kept_lines image ≡ kept_lines file ++ []) (λ file is image left.
        ap kept_lines (settled_image d settled honest file image is left) ∙ sym (append-nil (kept_lines file)));
    moments = λ honest. where_told (disk.bytes d) (λ file. LeavesOnly disk d d (KeepsSome (kept_lines file) [])) (λ file is.
        begins disk d (KeepsSome (kept_lines file) []) lawful (λ image left.
        ([], [], refl, ap kept_lines (settled_image d settled honest file image is left) ∙ sym (append-nil (kept_lines file)))));
  }

  module _ (d0 d1 : D) (line : List ℕ) (step : OnHonest disk d0 (λ file. LeavesOnly disk d0 d1 (KeepsOrAdds (kept_lines file) line))) where
    one_moments : OnHonest disk d0 (λ file. LeavesOnly disk d0 d1 (KeepsSome (kept_lines file) (line ∷ [])))
    one_moments honest = told_more (disk.bytes d0) (λ file. LeavesOnly disk d0 d1 (KeepsOrAdds (kept_lines file) line)) (λ file. LeavesOnly disk d0 d1 (KeepsSome (kept_lines file) (line ∷ []))) (step honest)
        (λ file leaves. leaves_more disk d0 d1 (KeepsOrAdds (kept_lines file) line) (KeepsSome (kept_lines file) (line ∷ [])) leaves (λ image. some_of_one (kept_lines file) line image))

    -- the line was kept
    pub kept_one : (place : ℕ) → IfSome (disk.bytes d0) (IsAtRest place) → place + 6 + length line ≤ 2 ^ 40 → kept_on (disk.bytes d1) ≡ then_line (kept_on (disk.bytes d0)) line
        → IsSettled disk d1 → disk.tells_images d1 ≡ disk.tells_images d0 → HasKept disk d0 d1 (line ∷ [])
    kept_one place rests fits adds settled tells =
        let lines : kept_on (disk.bytes d1) ≡ then_lines (kept_on (disk.bytes d0)) (line ∷ []) = adds ∙ lines_one (kept_on (disk.bytes d0)) line in
        record {
          lines = lines;
          room = told_more (disk.bytes d0) (IsAtRest place) (λ file. last_gate file + size_of_records (line ∷ []) < 2 ^ 40) rests (λ file at. omega (arith, at.gate, fits));
          images = λ honest. where_told (disk.bytes d0) (λ file. (image : List ℕ) → disk.may_leave d1 image → kept_lines image ≡ kept_lines file ++ line ∷ []) (λ file is image left.
              let now = holds (disk.bytes d0) (disk.bytes d1) (line ∷ []) file lines is in
              ap kept_lines (settled_image d1 settled (subst IsTrue (sym tells) honest) now.file image now.is left) ∙ now.keeps);
          moments = one_moments;
        }

    -- the disk failed meanwhile
    pub kept_but_one : HasKeptBut disk d0 d1 [] line
    kept_but_one = record {
      images = λ honest. told_more (disk.bytes d0) (λ file. LeavesOnly disk d0 d1 (KeepsOrAdds (kept_lines file) line)) (λ file. (image : List ℕ) → disk.may_leave d1 image → KeepsOrAdds (kept_lines file ++ []) line image) (step honest)
          (λ file leaves image left.
          subst (λ (ls : List (List ℕ)). KeepsOrAdds ls line image) (sym (append-nil (kept_lines file)))
          (leaves.each image (lawful.counts_now d1 (disk.moment d0) image leaves.later left)));
      moments = one_moments;
    }

  -- ---- calls one after the other

  module _ (d0 d1 d2 : D) (done : List (List ℕ)) (first : HasKept disk d0 d1 done) (still : disk.tells_images d1 ≡ disk.tells_images d0) where
    pub moments_then : (more : List (List ℕ)) → OnHonest disk d1 (λ file. LeavesOnly disk d1 d2 (KeepsSome (kept_lines file) more)) → OnHonest disk d0 (λ file. LeavesOnly disk d0 d2 (KeepsSome (kept_lines file) (done ++ more)))
    moments_then more second honest = where_told (disk.bytes d0) (λ file. LeavesOnly disk d0 d2 (KeepsSome (kept_lines file) (done ++ more))) (λ file is.
        let now = holds (disk.bytes d0) (disk.bytes d1) done file first.lines is in
        let All : List ℕ → Type 0 = KeepsSome (kept_lines file) (done ++ more) in
        let before : LeavesOnly disk d0 d1 All =
        leaves_more disk d0 d1 (KeepsSome (kept_lines file) done) All (told (disk.bytes d0) (λ f. LeavesOnly disk d0 d1 (KeepsSome (kept_lines f) done)) (first.moments honest) file is)
        (λ image. some_more (kept_lines file) done more image) in
        let step : LeavesOnly disk d1 d2 (KeepsSome (kept_lines now.file) more) =
        told (disk.bytes d1) (λ f. LeavesOnly disk d1 d2 (KeepsSome (kept_lines f) more)) (second (subst IsTrue (sym still) honest)) now.file now.is in
        let after : LeavesOnly disk d1 d2 All =
        leaves_more disk d1 d2 (KeepsSome (kept_lines now.file) more) All step
        (λ image keeps. some_after (kept_lines file) done more image (subst (λ (ls : List (List ℕ)). KeepsSome ls more image) now.keeps keeps)) in
        leaves_on disk d0 d1 d2 All before after)

    images_then : (P : List (List ℕ) → List ℕ → Type 0) → OnHonest disk d1 (λ file. (image : List ℕ) → disk.may_leave d2 image → P (kept_lines file) image)
        → OnHonest disk d0 (λ file. (image : List ℕ) → disk.may_leave d2 image → P (kept_lines file ++ done) image)
    images_then P second honest = where_told (disk.bytes d0) (λ file. (image : List ℕ) → disk.may_leave d2 image → P (kept_lines file ++ done) image) (λ file is.
        let now = holds (disk.bytes d0) (disk.bytes d1) done file first.lines is in
        subst (λ (ls : List (List ℕ)). (image : List ℕ) → disk.may_leave d2 image → P ls image) now.keeps
        (told (disk.bytes d1) (λ f. (image : List ℕ) → disk.may_leave d2 image → P (kept_lines f) image) (second (subst IsTrue (sym still) honest)) now.file now.is))

    more_images : (more : List (List ℕ)) → OnHonest disk d1 (λ file. (image : List ℕ) → disk.may_leave d2 image → kept_lines image ≡ kept_lines file ++ more)
        → OnHonest disk d0 (λ file. (image : List ℕ) → disk.may_leave d2 image → kept_lines image ≡ kept_lines file ++ (done ++ more))
    more_images more second honest = told_more (disk.bytes d0) (λ file. (image : List ℕ) → disk.may_leave d2 image → kept_lines image ≡ (kept_lines file ++ done) ++ more)
        (λ file. (image : List ℕ) → disk.may_leave d2 image → kept_lines image ≡ kept_lines file ++ (done ++ more)) (images_then (λ old image. kept_lines image ≡ old ++ more) second honest)
        (λ file keeps image left. keeps image left ∙ append_assoc (kept_lines file) done more)

    but_images : (last : List ℕ) → OnHonest disk d1 (λ file. (image : List ℕ) → disk.may_leave d2 image → KeepsOrAdds (kept_lines file ++ []) last image)
        → OnHonest disk d0 (λ file. (image : List ℕ) → disk.may_leave d2 image → KeepsOrAdds (kept_lines file ++ done) last image)
    but_images last second honest = told_more (disk.bytes d0) (λ file. (image : List ℕ) → disk.may_leave d2 image → KeepsOrAdds ((kept_lines file ++ done) ++ []) last image)
        (λ file. (image : List ℕ) → disk.may_leave d2 image → KeepsOrAdds (kept_lines file ++ done) last image) (images_then (λ old image. KeepsOrAdds (old ++ []) last image) second honest)
        (λ file keeps image left. subst (λ (ls : List (List ℕ)). KeepsOrAdds ls last image) (append-nil (kept_lines file ++ done)) (keeps image left))

    pub kept_then : (more : List (List ℕ)) → HasKept disk d1 d2 more → IfSome (disk.bytes d0) (λ file. last_gate file + size_of_records (done ++ more) < 2 ^ 40) → HasKept disk d0 d2 (done ++ more)
    kept_then more second room = record {
      lines = lines_more (kept_on (disk.bytes d0)) (kept_on (disk.bytes d1)) (kept_on (disk.bytes d2)) done more first.lines second.lines;
      room = room;
      images = more_images more second.images;
      moments = moments_then more second.moments;
    }

    pub kept_then_but : (last : List ℕ) → HasKeptBut disk d1 d2 [] last → HasKeptBut disk d0 d2 done last
    kept_then_but last second = record {
      images = but_images last second.images;
      moments = moments_then (last ∷ []) second.moments;
    }

    pub kept_none_then_but : (more : List (List ℕ)) (last : List ℕ) → done ≡ [] → HasKeptBut disk d1 d2 more last → HasKeptBut disk d0 d2 more last
    kept_none_then_but more last none second = record {
      images = λ honest. told_more (disk.bytes d0) (λ file. (image : List ℕ) → disk.may_leave d2 image → KeepsOrAdds ((kept_lines file ++ done) ++ more) last image)
          (λ file. (image : List ℕ) → disk.may_leave d2 image → KeepsOrAdds (kept_lines file ++ more) last image) (images_then (λ old image. KeepsOrAdds (old ++ more) last image) second.images honest)
          (λ file keeps image left. subst (λ (ls : List (List ℕ)). KeepsOrAdds (ls ++ more) last image) (ap (λ (ls : List (List ℕ)). kept_lines file ++ ls) none ∙ append-nil (kept_lines file)) (keeps image left));
      moments = subst (λ (ls : List (List ℕ)). OnHonest disk d0 (λ file. LeavesOnly disk d0 d2 (KeepsSome (kept_lines file) (ls ++ (more ++ last ∷ []))))) none (moments_then (more ++ last ∷ []) second.moments);
    }

  -- ---- a journal that was opened, and then kept lines

  module _ (d d0 : D) (opened : LosesNone disk d d0) (same : kept_on (disk.bytes d0) ≡ kept_on (disk.bytes d)) (settled : IsSettled disk d0) (still : disk.tells_images d0 ≡ disk.tells_images d) where
    -- the opening kept nothing
    pub kept_nothing : IfSome (disk.bytes d) (λ file. last_gate file < 2 ^ 40) → HasKept disk d d0 []
    kept_nothing below =
        let lines : kept_on (disk.bytes d0) ≡ then_lines (kept_on (disk.bytes d)) [] = same ∙ lines_none (kept_on (disk.bytes d)) in
        record {
          lines = lines;
          room = told_more (disk.bytes d) (λ file. last_gate file < 2 ^ 40) (λ file. last_gate file + 0 < 2 ^ 40) below (λ file lt. omega (arith, lt));
          images = λ honest. where_told (disk.bytes d) (λ file. (image : List ℕ) → disk.may_leave d0 image → kept_lines image ≡ kept_lines file ++ []) (λ file is image left.
              let now = holds (disk.bytes d) (disk.bytes d0) [] file lines is in
              ap kept_lines (settled_image d0 settled (subst IsTrue (sym still) honest) now.file image now.is left) ∙ now.keeps);
          moments = λ honest. told_more (disk.bytes d) (λ file. LeavesOnly disk d d0 (λ image. kept_lines image ≡ kept_lines file)) (λ file. LeavesOnly disk d d0 (KeepsSome (kept_lines file) [])) (opened honest)
              (λ file leaves. leaves_more disk d d0 (λ image. kept_lines image ≡ kept_lines file) (KeepsSome (kept_lines file) []) leaves
              (λ image keeps. ([], [], refl, keeps ∙ sym (append-nil (kept_lines file)))));
        }
