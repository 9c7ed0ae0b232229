-- What stands at an ending, told of what was kept since an earlier moment.
use Rattle.std.proofs.Common.{◌≡◌, ℕ, ◌<◌, ◌^◌, List, [], ◌∷◌, ◌++◌, ◌+◌, Option, IfSome, arith, refl}
use Rattle.ld_keep.specs.Disk.{DiskModel, IsLawful, IsSettled}
use Rattle.ld_keep.specs.Journal.{IsAtRest}
use Rattle.ld_keep.specs.Kept.{last_gate}
use Rattle.ld_keep.proofs.Told.{told, told_more, where_told}
use Rattle.ld_world.specs.World.{WorldState}
use Rattle.ld_keeping.specs.Endings.{AnswersLines, AnswersUpTo, AnswersBefore, KeepsAll, KeepsTaken, KeepsCut, KeepsBefore}
use Rattle.ld_keeping.specs.Journaling.{HasKept, HasKeptBut, size_of_records}
use Rattle.ld_keeping.proofs.Journals.{holds, kept_then, kept_none_then_but}

module _ (Kept Since : List (List ℕ) → Type 0) (since : (done : List (List ℕ)) → Kept done → Since done) (old : WorldState) (source before left written : Option (List ℕ)) where
  answers_since : (lines : List (List ℕ)) → AnswersLines Kept old before written lines → AnswersLines Since old before written lines
  answers_since lines a = record { text = a.text; done = a.done; new = a.new; keeps = a.keeps; wrote = a.wrote; kept = since a.done a.kept }

  pub all_since : KeepsAll Kept old source before left written → KeepsAll Since old source before left written
  all_since (lines, are, answers) = (lines, are, answers_since lines answers)

  pub taken_since : (Many : ℕ → Type 0) → KeepsTaken Many Kept old source before left written → KeepsTaken Many Since old source before left written
  taken_since Many (lines, are, answers) = (lines, are, answers_since lines answers)

  pub cut_since : KeepsCut Kept old source before left written → KeepsCut Since old source before left written
  cut_since (lines, last, are, a) = (
    lines,
    last,
    are,
    record { text = a.text; done = a.done; mid = a.mid; keeps = a.keeps; block = a.block; one = a.one; new = a.new; answers = a.answers; wrote = a.wrote; kept = since (a.done ++ a.one) a.kept },
  )

pub before_since : (Kept Since : List (List ℕ) → List ℕ → Type 0) → ((done : List (List ℕ)) (last : List ℕ) → Kept done last → Since done last) → (old : WorldState) (source before left written : Option (List ℕ))
    → KeepsBefore Kept old source before left written → KeepsBefore Since old source before left written
before_since Kept Since since old source before left written (lines, last, are, a) = (
  lines,
  last,
  are,
  record { text = a.text; done = a.done; mid = a.mid; keeps = a.keeps; block = a.block; new = a.new; is_done = a.is_done; wrote = a.wrote; kept = since a.done last a.kept },
)

-- A journal was opened, and then lines were kept in it.
module _ {D : Type 0} (disk : DiskModel D) (lawful : IsLawful disk) (d0 d1 d2 : D) (place : ℕ) (opened : IsSettled disk d0 → HasKept disk d0 d1 [])
    (gate : IfSome (disk.bytes d0) (λ file. last_gate file ≡ place)) (rests : IfSome (disk.bytes d1) (IsAtRest place)) (still : disk.tells_images d1 ≡ disk.tells_images d0) where
  room_since : (done : List (List ℕ)) → HasKept disk d0 d1 [] → HasKept disk d1 d2 done → IfSome (disk.bytes d0) (λ file. last_gate file + size_of_records done < 2 ^ 40)
  room_since done first second = where_told (disk.bytes d0) (λ file. last_gate file + size_of_records done < 2 ^ 40) (λ file is.
      let now = holds (disk.bytes d0) (disk.bytes d1) [] file first.lines is in
      let at0 = told (disk.bytes d0) (λ f. last_gate f ≡ place) gate file is in
      let at1 = told (disk.bytes d1) (IsAtRest place) rests now.file now.is in
      let room = told (disk.bytes d1) (λ f. last_gate f + size_of_records done < 2 ^ 40) second.room now.file now.is in
      omega (arith, at0, at1.gate, room))

  pub kept_since : (done : List (List ℕ)) → HasKept disk d1 d2 done → IsSettled disk d0 → HasKept disk d0 d2 done
  kept_since done after settled = kept_then disk lawful d0 d1 d2 [] (opened settled) still done after (room_since done (opened settled) after)

  pub but_since : (done : List (List ℕ)) (last : List ℕ) → HasKeptBut disk d1 d2 done last → IsSettled disk d0 → HasKeptBut disk d0 d2 done last
  but_since done last after settled = kept_none_then_but disk lawful d0 d1 d2 [] (opened settled) still done last refl after

  pub full_since : (done : List (List ℕ)) (last : List ℕ) → HasKept disk d1 d2 done × (2 ^ 40 < place + size_of_records (done ++ last ∷ []) + 1)
      → (IsSettled disk d0 → HasKept disk d0 d2 done) × IfSome (disk.bytes d0) (λ file. 2 ^ 40 < last_gate file + size_of_records (done ++ last ∷ []) + 1)
  full_since done last (after, over) = (
    kept_since done after,
    told_more (disk.bytes d0) (λ file. last_gate file ≡ place) (λ file. 2 ^ 40 < last_gate file + size_of_records (done ++ last ∷ []) + 1) gate (λ file at. omega (arith, at, over)),
  )
