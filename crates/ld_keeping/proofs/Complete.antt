-- Why the answering of lines over a journal ends, where nothing fails.
use Rattle.std.proofs.Common.{◌≡◌, ℕ, ◌+◌, ◌<◌, ◌≤◌, ◌^◌, List, [], ◌∷◌, ◌++◌, length, Option, Some, None, IfSome, Ok, Err, Result, refl, sym, ap, subst, ◌∙◌, arith, length-append, ◌⊎◌, inl, inr}
use Rattle.ld_base.specs.Outside.{piece_then}
use Rattle.ld_keep.specs.Kept.{last_gate}
use Rattle.ld_keep.proofs.Told.{told}
use Rattle.ld_world.specs.World.{WorldState}
use Rattle.ld_keeping.specs.Endings.{KeepsTaken, KeepsBefore, HasRoomFor, IsComplete}
use Rattle.ld_keeping.specs.declared.ending.KeepEnding.{KeepEnding}
use Rattle.ld_keeping.specs.declared.ending.KeepEnding.TheVariants.{Done, ReadFault, WriteFault, NoMemory, InputTooLong, DiskFault, JournalDiffers, JournalFull}
use Rattle.ld_keeping.specs.InJournal.{Differing, FromJournal, FromDiffering, after_journal}
use Rattle.ld_keeping.specs.InputLines.{AreFirstLines, BeginsWithLines}
use Rattle.ld_keeping.specs.Journaling.{size_of_records}
use Rattle.ld_keeping.specs.Keeping.{IsDone, AnswersKeeping, Keeps}
use Rattle.ld_keeping.proofs.Turning.{Keeps-more}

taken_from : (bytes taken : List ℕ) (left : Option (List ℕ)) → Some bytes ≡ piece_then taken left → (rest : List ℕ) × (left ≡ Some rest) × (bytes ≡ taken ++ rest)
taken_from bytes taken None is = absurd (cc is)
taken_from bytes taken (Some rest) is = (rest, refl, cc is)

-- fewer bytes than 2^40 are not too many
pub not_too_long : (Kept : List (List ℕ) → Type 0) (file : Option (List ℕ)) (first : WorldState) (source before left written : Option (List ℕ)) (bytes : List ℕ) → source ≡ Some bytes → length bytes < 2 ^ 40
    → FromJournal file first (λ after. KeepsTaken (λ n. n ≡ 2 ^ 40) Kept after source before left written) → ⊥
not_too_long Kept file first source before left written bytes is few (after, same, kept) =
    let ended = kept.1 in
    let t = taken_from bytes ended.0 left (sym is ∙ ended.1) in
    absurd (omega (arith, few, ended.2, ap length t.2, length-append ended.0 t.0))

-- a journal of which every line is done does not differ
pub not_differing : {P : Differing → Type 0} (told_file : Option (List ℕ)) (file : List ℕ) (first after : WorldState) → told_file ≡ Some file → after_journal first file ≡ Ok after → FromDiffering told_file first P → ⊥
not_differing told_file file first after is done (differing, differs, rest) =
    let other : after_journal first file ≡ Err differing = told told_file (λ bytes. after_journal first bytes ≡ Err differing) differs file is in
    absurd (cc (done, other))

-- where there is room for the records, the journal is not full
pub not_full : (Kept : List (List ℕ) → Type 0) (source before left written told_file : Option (List ℕ)) (bytes file : List ℕ) (first after : WorldState) → source ≡ Some bytes → told_file ≡ Some file
    → after_journal first file ≡ Ok after → HasRoomFor after bytes file
    → FromJournal told_file first (λ w. KeepsBefore (λ done last. Kept done × IfSome told_file (λ f. 2 ^ 40 < last_gate f + size_of_records (done ++ last ∷ []) + 1)) w source before left written) → ⊥
not_full Kept source before left written told_file bytes file first after is is_file done room (w, leads, kept) =
    let lines = kept.0 in
    let last = kept.1 in
    let taken = kept.2 in
    let answers = kept.3 in
    let other : after_journal first file ≡ Ok w = told told_file (λ f. after_journal first f ≡ Ok w) leads file is_file in
    let same : w ≡ after = cc (done, other) in
    let t = taken_from bytes taken.0 left (sym is ∙ taken.1) in
    let history = Keeps-more w lines answers.text answers.done answers.mid last answers.block (last ∷ []) answers.new answers.keeps (inl (answers.is_done, refl)) in
    let fits = room taken.0 t.0 (lines ++ last ∷ []) (answers.text ++ answers.block) (answers.done ++ last ∷ []) answers.new t.2
    (subst (λ (l : Option (List ℕ)). BeginsWithLines taken.0 l (lines ++ last ∷ [])) t.1 taken.3)
    (subst (λ (v : WorldState). Keeps v (lines ++ last ∷ []) (answers.text ++ answers.block) (answers.done ++ last ∷ []) answers.new) same history) in
    let over = told told_file (λ f. 2 ^ 40 < last_gate f + size_of_records (answers.done ++ last ∷ []) + 1) answers.kept.1 file is_file in
    absurd (omega (arith, fits, over))

-- what else does not end it
pub complete : (ending : KeepEnding) → (ending ≡ ReadFault → ⊥) → (ending ≡ WriteFault → ⊥) → (ending ≡ InputTooLong → ⊥) → (ending ≡ DiskFault → ⊥) → (ending ≡ JournalDiffers → ⊥) → (ending ≡ JournalFull → ⊥) → IsComplete ending
complete Done read write long disk differs full = inl refl
complete ReadFault read write long disk differs full = absurd (read refl)
complete WriteFault read write long disk differs full = absurd (write refl)
complete NoMemory read write long disk differs full = inr refl
complete InputTooLong read write long disk differs full = absurd (long refl)
complete DiskFault read write long disk differs full = absurd (disk refl)
complete JournalDiffers read write long disk differs full = absurd (differs refl)
complete JournalFull read write long disk differs full = absurd (full refl)
