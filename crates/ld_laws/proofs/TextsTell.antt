-- A text that answers lines tells what was written for each of them.
use Rattle.std.proofs.Common.{◌≡◌, ℕ, List, [], ◌∷◌, ◌++◌, map, Option, inl, inr, refl, sym, ap, ◌∙◌, subst}
use Rattle.std.specs.List.{flat_map}
use Rattle.std.proofs.lemmas.List.{append_cancel_left}
use Rattle.ld_lines.specs.declared.line.Line.{Line}
use Rattle.ld_world.specs.Answers.{AnswersLine, Leads, line_of}
use Rattle.ld_world.specs.World.{WorldState}
use Rattle.ld_world.proofs.LawsReplies.{no_reply_is_want_of_memory}
use Rattle.ld_laws.specs.Histories.{AnsweredLine, AreAnswered, IsHistoryOf, TextTellsItsHistory}

-- ---- one line

same_front : (x y rest last : List ℕ) → x ≡ y → x ++ rest ≡ y ++ last → rest ≡ last
same_front x y rest last front same = append_cancel_left y rest last (ap (λ (t : List ℕ). t ++ rest) (sym front) ∙ same)

-- Of two texts that begin with what was written for a line, both begin with the same, and the line leaves one world.
one_line : (w : WorldState) (asked : Option Line) (x y rest last : List ℕ) (mid other : WorldState) → AnswersLine w asked x mid → AnswersLine w asked y other
    → x ++ rest ≡ y ++ last → (x ≡ y) × (mid ≡ other) × (rest ≡ last)
one_line w asked x y rest last mid other (_, inl this) (_, inl that) same =
    let text : x ≡ y = this.1 ∙ sym that.1 in
    (text, this.2 ∙ sym that.2, same_front x y rest last text same)
one_line w asked x y rest last mid other (_, inr this) (_, inr that) same =
    let text : x ≡ y = this.1 ∙ sym that.1 in
    (text, this.2 ∙ sym that.2, same_front x y rest last text same)
one_line w asked x y rest last mid other (_, inl this) (_, inr that) same =
    absurd (no_reply_is_want_of_memory w asked rest last (ap (λ (t : List ℕ). t ++ rest) (sym this.1) ∙ same ∙ ap (λ (t : List ℕ). t ++ last) that.1))
one_line w asked x y rest last mid other (_, inr this) (_, inl that) same =
    absurd (no_reply_is_want_of_memory w asked last rest (ap (λ (t : List ℕ). t ++ last) (sym that.1) ∙ sym same ∙ ap (λ (t : List ℕ). t ++ rest) this.1))

-- ---- all lines

abbrev all_asked : List AnsweredLine → List (Option Line)
all_asked history = map (λ (one : AnsweredLine). one.asked) history

abbrev all_written : List AnsweredLine → List ℕ
all_written history = flat_map (λ (one : AnsweredLine). one.text) history

-- There is a history of a text that answers.
history_there : (w : WorldState) (lines : List (List ℕ)) (text : List ℕ) (new : WorldState) → Leads w lines text new
    → (history : List AnsweredLine) × IsHistoryOf w lines text history
history_there w [] text new (none, same) = ([], record { asked = refl; written = sym none; answered = tt })
history_there w (line ∷ lines) text new (first, rest, mid, parts, answers, led) =
    let more = history_there mid lines rest new led in (
      record { asked = line_of line; text = first } ∷ more.0,
      record {
        asked = ap (λ (asked : List (Option Line)). line_of line ∷ asked) more.1.asked;
        written = ap (λ (t : List ℕ). first ++ t) more.1.written ∙ sym parts;
        answered = (mid, answers, more.1.answered);
      },
    )

-- There are no two.
only_one : (w : WorldState) (history other : List AnsweredLine) → AreAnswered w history → AreAnswered w other
    → all_asked history ≡ all_asked other → all_written history ≡ all_written other → history ≡ other
only_one w [] [] here there asked written = refl
only_one w [] (one ∷ more) here there asked written = absurd (cc asked)
only_one w (one ∷ more) [] here there asked written = absurd (cc asked)
only_one w (one ∷ more) (two ∷ others) (mid, answers, rest) (left, answered, later) asked written =
    let first : one.asked ≡ two.asked = cc asked in
    let behind : all_asked more ≡ all_asked others = cc asked in
    let same = one_line w one.asked one.text two.text (all_written more) (all_written others) mid left answers
    (subst (λ a. AnswersLine w a two.text left) (sym first) answered) written in
    let tails = only_one left more others (subst (λ x. AreAnswered x more) same.1 rest) later behind same.2 in
    λ i. record { asked = first i; text = same.0 i } ∷ tails i

pub text_tells_its_history : TextTellsItsHistory
text_tells_its_history w lines text (new, led) =
    let found = history_there w lines text new led in (
      found.0,
      found.1,
      λ other is. only_one w other found.0 is.answered found.1.answered (is.asked ∙ sym found.1.asked) (is.written ∙ sym found.1.written),
    )
