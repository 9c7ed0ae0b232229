-- The lines of a journal, done one after the other while it is opened.
use Rattle.std.proofs.Common.{◌≡◌, ℕ, suc, ◌+◌, ◌<◌, ◌^◌, true, false, Result, OnOk, IfOk, List, [], ◌∷◌, Option, Some, None, IfSome, IsTrue, Ok, Err, refl, sym, ap, subst, ◌∙◌, arith}
use Rattle.ld_admission.specs.Refusals.{Refusal}
use Rattle.ld_keep.specs.Disk.{DiskModel, IsLawful, IsQuiet, OnHonest, Only, IsSettled, LeavesOnly}
use Rattle.ld_keep.specs.Kept.{kept_lines, lines_from}
use Rattle.ld_keep.specs.Opening.{OpeningState, IsAtGate}
use Rattle.ld_keep.proofs.Moments.{adds_none, leaves_more, leaves_on}
use Rattle.ld_keep.proofs.Told.{told, where_told, told_more, told_both, told_same}
use Rattle.ld_world.specs.Answers.{line_of}
use Rattle.ld_world.specs.World.{WorldState, world_step}
use Rattle.ld_keeping.specs.Applying.{AppliesNext, DiffersAt}
use Rattle.ld_keeping.specs.InJournal.{unless_differing, after_lines, after_journal}
use Rattle.ld_keeping.specs.Journaling.{LosesNone}
use Rattle.ld_keeping.specs.Keeping.{IsDone}
use Rattle.ld_keeping.specs.declared.opening.OpenStop.{OpenStop}
use Rattle.ld_keeping.specs.declared.opening.OpenStop.TheVariants.{DiskFault, NoMemory, Differs}

-- ---- worlds

pub after_none : (number : ℕ) (w : WorldState) → after_lines number w [] ≡ Ok w
unfolding after_lines
after_none number w = refl

pub after_done : (number : ℕ) (w : WorldState) (line text : List ℕ) (lines : List (List ℕ)) (new : WorldState) → IsDone w line text new → after_lines number w (line ∷ lines) ≡ after_lines (number + 1) new lines
unfolding after_lines
after_done number w line text lines new (done, step, told, after) =
    ap (λ r. unless_differing number r (λ d. after_lines (suc number) d.world lines)) step
    ∙ ap (λ (world : WorldState). after_lines (suc number) world lines) (sym after)
    ∙ ap (λ (n : ℕ). after_lines n new lines) (omega arith)

pub after_refused : (number : ℕ) (w : WorldState) (line : List ℕ) (lines : List (List ℕ)) (refusal : Refusal) → world_step w (line_of line) ≡ Err refusal
    → after_lines number w (line ∷ lines) ≡ Err (record { number = number; refusal = refusal })
unfolding after_lines
after_refused number w line lines refusal step = ap (λ r. unless_differing number r (λ d. after_lines (suc number) d.world lines)) step

module _ (told_file bytes : Option (List ℕ)) (same : bytes ≡ told_file) (first : WorldState) (number : ℕ) (old : OpeningState) (world : WorldState)
    (so_far : IfSome told_file (λ file. after_journal first file ≡ after_lines number world (lines_from old.place file))) (text : List ℕ) (new : OpeningState) (after : WorldState) where
  -- one more line was done
  pub world_next : AppliesNext number bytes old world (Ok true) text new after → IfSome told_file (λ file. after_journal first file ≡ after_lines (number + 1) after (lines_from new.place file))
  world_next (line, done, forth, within, limit, lines) =
      told_both told_file (λ file. after_journal first file ≡ after_lines number world (lines_from old.place file)) (λ file. (lines_from old.place file ≡ line ∷ lines_from new.place file) × IsAtGate new file)
      (λ file. after_journal first file ≡ after_lines (number + 1) after (lines_from new.place file)) so_far
      (told_same bytes told_file (λ file. (lines_from old.place file ≡ line ∷ lines_from new.place file) × IsAtGate new file) (sym same) lines)
      (λ file leads parts. leads ∙ ap (after_lines number world) parts.0 ∙ after_done number world line text (lines_from new.place file) after done)

  -- there is none any more
  pub world_last : AppliesNext number bytes old world (Ok false) text new after → IfSome told_file (λ file. after_journal first file ≡ Ok after)
  world_last (stays, ended, place, lines) =
      told_both told_file (λ file. after_journal first file ≡ after_lines number world (lines_from old.place file)) (λ file. (lines_from old.place file ≡ []) × IsAtGate new file) (λ file. after_journal first file ≡ Ok after) so_far
      (told_same bytes told_file (λ file. (lines_from old.place file ≡ []) × IsAtGate new file) (sym same) lines)
      (λ file leads none. leads ∙ ap (after_lines number world) none.0 ∙ after_none number world ∙ ap Ok (sym stays))

  -- the line is refused
  pub differs_at : (stop : OpenStop) → AppliesNext number bytes old world (Err stop) text new after → DiffersAt stop told_file first text
  differs_at DiskFault applies = tt
  differs_at NoMemory applies = tt
  differs_at (Differs n) (is, line, refusal, step, told_text, lines) = (
    record { number = number; refusal = refusal },
    sym is,
    told_text,
    told_both told_file (λ file. after_journal first file ≡ after_lines number world (lines_from old.place file)) (λ file. (rest : List (List ℕ)) × (lines_from old.place file ≡ line ∷ rest))
        (λ file. after_journal first file ≡ Err (record { number = number; refusal = refusal })) so_far
        (told_same bytes told_file (λ file. (rest : List (List ℕ)) × (lines_from old.place file ≡ line ∷ rest)) (sym same) lines)
        (λ file leads parts. leads ∙ ap (after_lines number world) parts.1 ∙ after_refused number world line parts.0 refusal step),
  )

-- what follows once it is finished
pub finished : {A E : Type 0} (result : Result A E) (P Q R : Type 0) (S T : A → Type 0) → OnOk result P → OnOk result Q → IfOk result S → IfOk result T → ((x : A) → P → Q → S x → T x → R) → OnOk result R
finished (Ok x) P Q R S T p q s t all = all x p q s t
finished (Err e) P Q R S T p q s t all = tt

pub always : {A E : Type 0} (result : Result A E) (P : Type 0) → P → OnOk result P
always (Ok x) P holds = holds
always (Err e) P holds = tt

-- ---- disks

module _ {D : Type 0} (disk : DiskModel D) (lawful : IsLawful disk) where
  pub loses_quiet : (d d0 d1 : D) → LosesNone disk d d0 → IsQuiet disk d0 d1 → LosesNone disk d d1
  loses_quiet d d0 d1 so_far quiet honest =
      told_more (disk.bytes d) (λ file. LeavesOnly disk d d0 (λ image. kept_lines image ≡ kept_lines file)) (λ file. LeavesOnly disk d d1 (λ image. kept_lines image ≡ kept_lines file)) (so_far honest)
      (λ file leaves. adds_none disk d d0 d1 (λ image. kept_lines image ≡ kept_lines file) lawful leaves quiet.time (λ image left. (quiet.images image).0 left))

  pub loses_on : (d d0 d1 : D) → LosesNone disk d d0 → disk.bytes d0 ≡ disk.bytes d → disk.tells_images d0 ≡ disk.tells_images d → LosesNone disk d0 d1 → LosesNone disk d d1
  loses_on d d0 d1 so_far same tells more honest =
      where_told (disk.bytes d) (λ file. LeavesOnly disk d d1 (λ image. kept_lines image ≡ kept_lines file)) (λ file is.
      leaves_on disk d d0 d1 (λ image. kept_lines image ≡ kept_lines file)
      (told (disk.bytes d) (λ f. LeavesOnly disk d d0 (λ image. kept_lines image ≡ kept_lines f)) (so_far honest) file is)
      (told (disk.bytes d0) (λ f. LeavesOnly disk d0 d1 (λ image. kept_lines image ≡ kept_lines f)) (more (subst IsTrue (sym tells) honest)) file (same ∙ is)))

  -- the images of a disk of which nothing is pending keep its lines
  pub loses_by_start : (d d0 : D) → IsSettled disk d → LeavesOnly disk d d0 (disk.may_leave d) → LosesNone disk d d0
  loses_by_start d d0 settled leaves honest =
      where_told (disk.bytes d) (λ file. LeavesOnly disk d d0 (λ image. kept_lines image ≡ kept_lines file)) (λ file is.
      leaves_more disk d d0 (disk.may_leave d) (λ image. kept_lines image ≡ kept_lines file) leaves
      (λ image left. ap kept_lines ((told (disk.bytes d) (Only (disk.may_leave d)) (settled honest) file is image).0 left)))
