-- What a reply says of a line.
use Rattle.std.proofs.Common.{◌≡◌, ◌⊎◌, ℕ, List, Option, None, Result, Ok, Err, refl, inl, inr, length, ◌<◌, arith, sym, ap, ◌∙◌, subst, Bool, true, false}
use Rattle.std.proofs.lemmas.Grind.{common_steps}
use Rattle.ld_admission.specs.Refusals as refusals
use Rattle.ld_lines.specs.declared.line.Line.{Line}
use Rattle.ld_admission.specs.Refusals.{Refusal, BadLine}
use Rattle.ld_run.specs.Reply.{reply_to_refusal}
use Rattle.ld_run.specs.declared.reply.Reply.{Reply}
use Rattle.ld_run.specs.declared.reply.Reply.TheVariants.{Done, Refused, NoMemory}
use Rattle.ld_world.specs.Answers.{RepliesTo, line_of, reply_to_deed, reply_to_line}
use Rattle.ld_world.specs.World.{Deed, made, ran, stored, known, DoneLine, WorldState, reply_block, world_after, world_step}
use Rattle.ld_keeping.specs.Keeping.{IsDone, IsNotDone}

-- It is done, it is refused, or memory ran out.
abbrev pub Says : Reply → WorldState → List ℕ → List ℕ → WorldState → Type 0
Says (Done numbers) old line text new = IsDone old line text new
Says (Refused number) old line text new =
    (refusal : Refusal) × (world_step old (line_of line) ≡ Err refusal) × (text ≡ reply_block (Err refusal)) × (new ≡ old)
Says NoMemory old line text new = IsNotDone old line text new

-- a refusal is no reply of a line that is done
abbrev pub is_done : Reply → Bool
is_done (Done numbers) = true
is_done (Refused number) = false
is_done NoMemory = false

refused_is_not_done : (refusal : Refusal) → is_done (reply_to_refusal refusal) ≡ false
refused_is_not_done refusals.BadLine = refl
refused_is_not_done refusals.UnknownUnit = refl
refused_is_not_done refusals.RunExists = refl
refused_is_not_done refusals.UnknownRun = refl
refused_is_not_done (refusals.MomentBack _) = refl
refused_is_not_done refusals.NotStarted = refl
refused_is_not_done refusals.StartedAlready = refl
refused_is_not_done refusals.UnknownPerson = refl
refused_is_not_done refusals.PersonExists = refl
refused_is_not_done refusals.RunFull = refl
refused_is_not_done refusals.UnknownRole = refl
refused_is_not_done refusals.HoldsAlready = refl
refused_is_not_done refusals.NotHeld = refl
refused_is_not_done refusals.RoleFull = refl
refused_is_not_done refusals.RoleExclusive = refl
refused_is_not_done (refusals.RoleShort _ _ _) = refl
refused_is_not_done refusals.UnknownActivity = refl
refused_is_not_done refusals.NotByChoice = refl
refused_is_not_done refusals.UnknownProperty = refl
refused_is_not_done refusals.UnknownGlobal = refl
refused_is_not_done refusals.BadValue = refl
refused_is_not_done refusals.NotAllowed = refl
refused_is_not_done refusals.TurnBudget = refl
refused_is_not_done refusals.NotOpen = refl
refused_is_not_done refusals.NoMemory = refl

deed_is_done : (deed : Deed) → is_done (reply_to_deed deed) ≡ true
deed_is_done made = refl
deed_is_done (ran unit done) = refl
deed_is_done stored = refl
deed_is_done (known value) = refl

module _ (old : WorldState) (line text : List ℕ) (new : WorldState) where
  of_result : (result : Result DoneLine Refusal) → world_step old (line_of line) ≡ result → (reply : Reply) → reply ≡ reply_to_line result → text ≡ reply_block result → new ≡ world_after old result
      → Says reply old line text new
  of_result (Ok done) step (Done numbers) is told after = (done, step, told, after)
  of_result (Ok done) step (Refused number) is told after = let wrong : false ≡ true = ap is_done is ∙ deed_is_done done.deed in absurd (cc wrong)
  of_result (Ok done) step NoMemory is told after = let wrong : false ≡ true = ap is_done is ∙ deed_is_done done.deed in absurd (cc wrong)
  of_result (Err refusal) step (Done numbers) is told after = let wrong : true ≡ false = ap is_done is ∙ refused_is_not_done refusal in absurd (cc wrong)
  of_result (Err refusal) step (Refused number) is told after = (refusal, step, told, after)
  of_result (Err refusal) step NoMemory is told after = (refusal, inl step, told, after)

  pub says : (reply : Reply) → RepliesTo old (line_of line) reply text new → Says reply old line text new
  says reply (inl (is, told, after)) = of_result (world_step old (line_of line)) refl reply is told after
  says (Done numbers) (inr (is, told, after)) = absurd (cc is)
  says (Refused number) (inr (is, told, after)) = absurd (cc is)
  says NoMemory (inr (is, told, after)) = (refusals.NoMemory, inr refl, told, after)

  -- a reply that is not done
  pub not_done : (reply : Reply) → is_done reply ≡ false → Says reply old line text new → IsNotDone old line text new
  not_done (Done numbers) is says = absurd (cc is)
  not_done (Refused number) is (refusal, step, told, after) = (refusal, inl step, told, after)
  not_done NoMemory is says = says

line_of-long : (line : List ℕ) → 65536 < length line → line_of line ≡ None
line_of-long line long = grind (arith, common_steps)

-- a line that is too long is refused
pub long_not_done : (old : WorldState) (reply : Reply) (text : List ℕ) (new : WorldState) → RepliesTo old None reply text new → reply ≡ reply_to_refusal BadLine
    → (line : List ℕ) → 65536 < length line → IsNotDone old line text new
long_not_done old reply text new replies is line long =
    not_done old line text new reply (ap is_done is)
    (says old line text new reply (subst (λ (asked : Option Line). RepliesTo old asked reply text new) (sym (line_of-long line long)) replies))
