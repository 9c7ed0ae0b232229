-- In two histories in which a run meets the same, the replies to the lines that name it are the same.
use Rattle.std.proofs.Common.{◌≡◌, ℕ, List, [], ◌∷◌, Bool, true, false, inl, inr, if◌then◌else◌, refl, sym, ap, ap₂, ◌∙◌, subst}
use Rattle.ld_world.specs.World.{WorldState, first_world, reply_block, world_after, world_step}
use Rattle.ld_laws.specs.Histories.{AnsweredLine, AreAnswered, MetLine, RunsAreIsolated, is_met, left_by, meeting_by, met, replies_to}
use Rattle.ld_laws.proofs.AnsweredLines.{IsMet, met_one, more_answered, passed_one}
use Rattle.ld_laws.proofs.OtherLines.{HaveItAlike, left_alone, neither, other_left_alone}
use Rattle.ld_laws.proofs.OwnLines.{own_line_alike}

module _ (name : List ℕ) where
  abbrev History : Type 0
  History = List AnsweredLine

  -- What is met by a line and those after it, and the replies to it, by whether something is met by it.
  abbrev met_first : Bool → WorldState → AnsweredLine → History → List MetLine
  met_first meets w one more =
      if meets then record { line = one.asked; meeting = meeting_by w one.asked } ∷ met (left_by w one) name more else met (left_by w one) name more

  abbrev replies_first : Bool → AnsweredLine → History → List (List ℕ)
  replies_first meets one more = if meets then one.text ∷ replies_to name more else replies_to name more

  -- A line by which nothing is met leaves the worlds so, in the first history and in the second.
  passed_alone : (w v : WorldState) (one : AnsweredLine) → HaveItAlike name w v → is_met name one ≡ false → HaveItAlike name (left_by w one) v
  passed_alone w v one alike is = elim (passed_one name w one is) [
    | inl stays ↦ subst (λ x. HaveItAlike name x v) (sym stays) alike
    | inr apart ↦ subst (λ x. HaveItAlike name x v) (sym apart.0) (left_alone name w v one.asked alike apart.1)
  ]

  other_passed_alone : (w v : WorldState) (one : AnsweredLine) → HaveItAlike name w v → is_met name one ≡ false → HaveItAlike name w (left_by v one)
  other_passed_alone w v one alike is = elim (passed_one name v one is) [
    | inl stays ↦ subst (HaveItAlike name w) (sym stays) alike
    | inr apart ↦ subst (HaveItAlike name w) (sym apart.0) (other_left_alone name w v one.asked alike apart.1)
  ]

  -- Where nothing is met, nothing is told.
  none_told : (w : WorldState) (more : History) → met w name more ≡ [] → replies_to name more ≡ []
  none_told w [] none = refl
  none_told w (one ∷ more) none = by (is_met name one) none (none_told (left_by w one) more)
    where
      by : (meets : Bool) → met_first meets w one more ≡ [] → (met (left_by w one) name more ≡ [] → replies_to name more ≡ [])
          → replies_first meets one more ≡ []
      by true none rest = cc
      by false none rest = rest none

  -- A line by which something is met, and the lines of the other history up to the one by which the run meets the same.
  module _ (w : WorldState) (one : AnsweredLine) (more : History) (is : IsMet name w one)
      (further : (v : WorldState) (others : History) → HaveItAlike name (left_by w one) v → AreAnswered v others
      → met (left_by w one) name more ≡ met v name others → replies_to name more ≡ replies_to name others) where
    -- By a line of both the same is met, and the replies are the same.
    found_here : (v : WorldState) (other : AnsweredLine) (others : History) → HaveItAlike name w v → AreAnswered (left_by v other) others → IsMet name v other
        → met_first true w one more ≡ met_first true v other others → replies_first true one more ≡ replies_first true other others
    found_here v other others alike rest that same =
        let first : MetLine = record { line = one.asked; meeting = meeting_by w one.asked } in
        let second : MetLine = record { line = other.asked; meeting = meeting_by v other.asked } in
        let both : first ≡ second = cc in
        let asked : other.asked ≡ one.asked = sym (ap (λ (m : MetLine). m.line) both) in
        let meets : meeting_by w one.asked ≡ meeting_by v one.asked = ap (λ (m : MetLine). m.meeting) both ∙ ap (meeting_by v) asked in
        let later : met (left_by w one) name more ≡ met (left_by v other) name others = cc in
        let done = own_line_alike name w v one.asked is.named alike meets in
        let after : HaveItAlike name (left_by w one) (left_by v other) =
        subst (λ x. HaveItAlike name x (left_by v other)) (sym is.left)
        (subst (HaveItAlike name (world_after w (world_step w one.asked)))
        (ap (λ a. world_after v (world_step v a)) (sym asked) ∙ sym that.left) done.1) in
        ap₂ (λ text texts. text ∷ texts)
        (is.text ∙ done.0 ∙ ap (λ a. reply_block (world_step v a)) (sym asked) ∙ sym that.text)
        (further (left_by v other) others after rest later)

    found : (v : WorldState) (others : History) → HaveItAlike name w v → AreAnswered v others → met_first true w one more ≡ met v name others
        → replies_first true one more ≡ replies_to name others
    found v [] alike answered same = cc
    found v (other ∷ others) alike answered same =
        by (is_met name other) refl same (λ apart. found (left_by v other) others apart (more_answered v other others answered))
      where
        by : (own : Bool) → is_met name other ≡ own → met_first true w one more ≡ met_first own v other others
            → (HaveItAlike name w (left_by v other) → met_first true w one more ≡ met (left_by v other) name others → replies_first true one more ≡ replies_to name others)
            → replies_first true one more ≡ replies_first own other others
        by false passed same rest = rest (other_passed_alone w v other alike passed) same
        by true that same rest =
            found_here v other others alike (more_answered v other others answered) (met_one name v other others answered that) same

  -- From two worlds that have the run alike.
  pub meetings_tell : (history others : History) (w v : WorldState) → HaveItAlike name w v → AreAnswered w history → AreAnswered v others
      → met w name history ≡ met v name others → replies_to name history ≡ replies_to name others
  meetings_tell [] others w v alike here there same = sym (none_told v others (sym same))
  meetings_tell (one ∷ more) others w v alike here there same =
      by (is_met name one) refl same (λ x rest. meetings_tell more rest (left_by w one) x)
    where
      after : AreAnswered (left_by w one) more
      after = more_answered w one more here

      by : (meets : Bool) → is_met name one ≡ meets → met_first meets w one more ≡ met v name others
          → ((x : WorldState) (rest : History) → HaveItAlike name (left_by w one) x → AreAnswered (left_by w one) more → AreAnswered x rest
          → met (left_by w one) name more ≡ met x name rest → replies_to name more ≡ replies_to name rest)
          → replies_first meets one more ≡ replies_to name others
      by false passed same rest = rest v others (passed_alone w v one alike passed) after there same
      by true meets same rest =
          found w one more (met_one name w one more here meets)
          (λ x later alike answered same. rest x later alike after answered same) v others alike there same

-- From the first worlds.
pub runs_are_isolated : RunsAreIsolated
runs_are_isolated units other_units name history other here there same =
    meetings_tell name history other (first_world units) (first_world other_units) (neither refl refl refl) here there same
