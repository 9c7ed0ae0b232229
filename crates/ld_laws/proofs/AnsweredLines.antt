-- What the text that was written for a line says of it: whether the line counts as given, and what it leaves.
use Rattle.std.proofs.Common.{◌≡◌, ℕ, List, [], ◌∷◌, ◌++◌, Option, Err, Bool, true, false, ◌&&◌, not, ◌⊎◌, inl, inr, if◌then◌else◌, refl, sym, ap, ◌∙◌, subst}
use Rattle.std.proofs.lemmas.Bool.{cases_Bool}
use Rattle.std.proofs.lemmas.Slice.Eq.{bytes_eq-Decides}
use Rattle.ld_lines.specs.declared.line.Line.{Line}
use Rattle.ld_admission.specs.Refusals.{NoMemory}
use Rattle.ld_state.proofs.Elements.{different}
use Rattle.ld_world.specs.Answers.{AnswersLine}
use Rattle.ld_world.specs.World.{WorldState, reply_block, world_after, world_step}
use Rattle.ld_world.proofs.LawsReplies.{no_reply_is_want_of_memory}
use Rattle.ld_laws.specs.Histories.{AnsweredLine, AreAnswered, is_met, left_by, names_it, says_no_memory}

-- ---- one line

-- A line that was answered: memory ran out, or what was written is its reply.
pub data WasAnswered (w : WorldState) (one : AnsweredLine) (new : WorldState) : Type 0 where
  not_given : says_no_memory one.text ≡ true → new ≡ w → WasAnswered w one new
  replied :
      says_no_memory one.text ≡ false → one.text ≡ reply_block (world_step w one.asked)
      → new ≡ world_after w (world_step w one.asked) → WasAnswered w one new

-- The reply to a line does not say that memory ran out.
no_reply_says_so : (w : WorldState) (asked : Option Line) (text : List ℕ) → text ≡ reply_block (world_step w asked) → says_no_memory text ≡ false
no_reply_says_so w asked text is = elim (cases_Bool (says_no_memory text)) [
  | inl says ↦ absurd (no_reply_is_want_of_memory w asked [] []
      (ap (λ (t : List ℕ). t ++ []) (sym is ∙ (bytes_eq-Decides text (reply_block (Err NoMemory))).0 says)))
  | inr other ↦ other
]

pub was_answered : (w : WorldState) (one : AnsweredLine) (new : WorldState) → AnswersLine w one.asked one.text new → WasAnswered w one new
was_answered w one new (_, inl told) = replied (no_reply_says_so w one.asked one.text told.1) told.1 told.2
was_answered w one new (_, inr none) =
    not_given ((bytes_eq-Decides one.text (reply_block (Err NoMemory))).1 none.1) none.2

-- The world that the line leaves.
pub leaves_it : (w : WorldState) (one : AnsweredLine) (new : WorldState) → AnswersLine w one.asked one.text new → new ≡ left_by w one
leaves_it w one new answers = by (was_answered w one new answers)
  where
    by : WasAnswered w one new → new ≡ left_by w one
    by (not_given says same) = same ∙ ap (λ b. if b then w else world_after w (world_step w one.asked)) (sym says)
    by (replied says text after) = after ∙ ap (λ b. if b then w else world_after w (world_step w one.asked)) (sym says)

-- The lines behind it are answered in that world.
pub more_answered : (w : WorldState) (one : AnsweredLine) (more : List AnsweredLine) → AreAnswered w (one ∷ more) → AreAnswered (left_by w one) more
more_answered w one more (new, answers, rest) = subst (λ x. AreAnswered x more) (leaves_it w one new answers) rest

-- ---- one that counts as given

both_so : (a b : Bool) → (not a && b) ≡ true → (a ≡ false) × (b ≡ true)
both_so false true is = (refl, refl)
both_so false false is = different (sym is)
both_so true b is = different (sym is)

-- One by which something is met: it names the run, it counts as given, and what was written is its reply.
pub record IsMet (name : List ℕ) (w : WorldState) (one : AnsweredLine) : Type 0 where
  pub named : names_it name one.asked ≡ true
  pub text : one.text ≡ reply_block (world_step w one.asked)
  pub left : left_by w one ≡ world_after w (world_step w one.asked)

pub met_one : (name : List ℕ) (w : WorldState) (one : AnsweredLine) (more : List AnsweredLine) → AreAnswered w (one ∷ more) → is_met name one ≡ true → IsMet name w one
met_one name w one more (new, answers, rest) is = by (was_answered w one new answers)
  where
    so : (says_no_memory one.text ≡ false) × (names_it name one.asked ≡ true)
    so = both_so (says_no_memory one.text) (names_it name one.asked) is

    by : WasAnswered w one new → IsMet name w one
    by (not_given says same) = different (sym says ∙ so.0)
    by (replied says text after) = record {
      named = so.1;
      text = text;
      left = ap (λ b. if b then w else world_after w (world_step w one.asked)) so.0;
    }

neither_so : (a b : Bool) → (not a && b) ≡ false → (a ≡ true) ⊎ ((a ≡ false) × (b ≡ false))
neither_so true b is = inl refl
neither_so false b is = inr (refl, is)

-- One by which nothing is met leaves the world, or does not name the run and counts as given.
pub passed_one : (name : List ℕ) (w : WorldState) (one : AnsweredLine) → is_met name one ≡ false
    → (left_by w one ≡ w) ⊎ ((left_by w one ≡ world_after w (world_step w one.asked)) × (names_it name one.asked ≡ false))
passed_one name w one is = elim (neither_so (says_no_memory one.text) (names_it name one.asked) is) [
  | inl none ↦ inl (ap (λ b. if b then w else world_after w (world_step w one.asked)) none)
  | inr apart ↦ inr (ap (λ b. if b then w else world_after w (world_step w one.asked)) apart.0, apart.1)
]
