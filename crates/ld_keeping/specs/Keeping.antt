-- Lines that are answered one after the other, of which those that are done are kept.
use Rattle.std.specs.Prelude.{ℕ, List, [], ◌∷◌, ◌++◌, ◌≡◌, ◌⊎◌, Result, Ok, Err}
use Rattle.ld_admission.specs.Refusals.{Refusal, NoMemory}
use Rattle.ld_world.specs.Answers.{line_of}
use Rattle.ld_world.specs.World.{WorldState, DoneLine, world_step, reply_block}

-- The line is done in the old world, the text says so, and the new world is the one after it.
abbrev pub IsDone : WorldState → List ℕ → List ℕ → WorldState → Type 0
IsDone old line text new =
    (done : DoneLine) × (world_step old (line_of line) ≡ Ok done) × (text ≡ reply_block (Ok done)) × (new ≡ done.world)

-- The line is refused, or memory ran out for it; the text says so, and the world stays.
abbrev pub IsNotDone : WorldState → List ℕ → List ℕ → WorldState → Type 0
IsNotDone old line text new =
    (refusal : Refusal) × ((world_step old (line_of line) ≡ Err refusal) ⊎ (refusal ≡ NoMemory)) × (text ≡ reply_block (Err refusal)) × (new ≡ old)

-- The text answers the line, and what is to be kept of it is the line, where it is done, and else nothing.
abbrev pub AnswersKeeping : WorldState → List ℕ → List ℕ → List (List ℕ) → WorldState → Type 0
AnswersKeeping old line text done new =
    (IsDone old line text new × (done ≡ line ∷ [])) ⊎ (IsNotDone old line text new × (done ≡ []))

-- The text answers the lines one after the other; these of them are done, and lead from the old world to the new one.
abbrev pub Keeps : WorldState → List (List ℕ) → List ℕ → List (List ℕ) → WorldState → Type 0
Keeps old [] text done new = (text ≡ []) × (done ≡ []) × (new ≡ old)
Keeps old (line ∷ lines) text done new =
    (first : List ℕ) × (rest : List ℕ) × (one : List (List ℕ)) × (more : List (List ℕ)) × (mid : WorldState)
    × (text ≡ first ++ rest) × (done ≡ one ++ more) × AnswersKeeping old line first one mid × Keeps mid lines rest more new
