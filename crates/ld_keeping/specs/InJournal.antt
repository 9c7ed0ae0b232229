-- The world that a journal holds: its lines are done one after the other, from a first world on.
use Rattle.std.specs.Prelude.{ℕ, suc, List, [], ◌∷◌, ◌++◌, Option, IfSome, Result, Ok, Err, codes, decimal, ◌≡◌}
use Rattle.ld_admission.specs.Refusals.{Refusal}
use Rattle.ld_keep.specs.Kept.{kept_lines}
use Rattle.ld_world.specs.Answers.{line_of}
use Rattle.ld_world.specs.World.{WorldState, DoneLine, world_step, reply_block}

-- The first line of a journal that is refused, by its number, counted from 1.
pub record Differing : Type 0 where
  pub number : ℕ
  pub refusal : Refusal

-- What follows once the line of this number is done; else it is the first that is refused.
abbrev pub unless_differing : ℕ → Result DoneLine Refusal → (DoneLine → Result WorldState Differing) → Result WorldState Differing
unless_differing number (Ok done) next = next done
unless_differing number (Err refusal) next = Err (record { number = number; refusal = refusal })

-- The world after these lines, the first of which has this number, or the first of them that is refused.
unfoldable pub after_lines : ℕ → WorldState → List (List ℕ) → Result WorldState Differing
after_lines number w [] = Ok w
after_lines number w (line ∷ lines) =
    unless_differing number (world_step w (line_of line)) (λ done. after_lines (suc number) done.world lines)

-- The world after the lines that a file keeps.
abbrev pub after_journal : WorldState → List ℕ → Result WorldState Differing
after_journal w file = after_lines 1 w (kept_lines file)

-- `journal K ` and a reply block.
abbrev pub text_of_differing : ℕ → List ℕ → List ℕ
text_of_differing number block = codes "journal " ++ (decimal number ++ (codes " " ++ block))

-- The same of the line that is refused.
abbrev pub differing_text : Differing → List ℕ
differing_text differing = text_of_differing differing.number (reply_block (Err differing.refusal))

-- Where the file is told, its lines lead to a world, and from that world on this was done.
abbrev pub FromJournal : Option (List ℕ) → WorldState → (WorldState → Type 0) → Type 0
FromJournal file w Done = (after : WorldState) × IfSome file (λ bytes. after_journal w bytes ≡ Ok after) × Done after

-- Where the file is told, a line of it is refused, and of the first such line this was done.
abbrev pub FromDiffering : Option (List ℕ) → WorldState → (Differing → Type 0) → Type 0
FromDiffering file w Done = (differing : Differing) × IfSome file (λ bytes. after_journal w bytes ≡ Err differing) × Done differing
