-- Replies of which a beginning is known: in which of them it ends.
use Rattle.std.proofs.Common.{ℕ, List, [], ◌∷◌, ◌++◌, ◌≡◌, refl, sym, ◌∙◌, ap, append_assoc, append-nil, ◌⊎◌, inl, inr}
use Rattle.ld_world.specs.Answers.{AnswersLine, Leads, line_of}
use Rattle.ld_world.specs.World.{WorldState}

-- The beginning holds the answers to some lines, and a part of the answer to the one behind them.
pub record CutAt (old : WorldState) (all : List (List ℕ)) (front : List ℕ) : Type 0 where
  pub lines : List (List ℕ)
  pub last : List ℕ
  pub rest : List (List ℕ)
  pub are : all ≡ lines ++ last ∷ rest
  pub text : List ℕ
  pub mid : WorldState
  pub led : Leads old lines text mid
  pub block : List ℕ
  pub next : WorldState
  pub answers : AnswersLine mid (line_of last) block next
  pub begun : List ℕ
  pub left : List ℕ
  pub block_parts : block ≡ begun ++ left
  pub parts : front ≡ text ++ begun

-- Of two ways to part a list, one parts it later.
either_longer : (a b c d : List ℕ) → a ++ b ≡ c ++ d → ((more : List ℕ) × (a ≡ c ++ more)) ⊎ ((more : List ℕ) × (c ≡ a ++ more) × (b ≡ more ++ d))
either_longer [] b c d e = inr (c, refl, e)
either_longer (x ∷ a) b [] d e = inl (x ∷ a, refl)
either_longer (x ∷ a) b (y ∷ c) d e =
    let head : x ≡ y = cc e in
    let tails : a ++ b ≡ c ++ d = cc e in
    elim (either_longer a b c d tails) [
      | inl longer ↦ inl (longer.0, ap (λ z. z ∷ a) head ∙ ap (λ zs. y ∷ zs) longer.1)
      | inr longer ↦ inr (longer.0, ap (λ z. z ∷ c) (sym head) ∙ ap (λ zs. x ∷ zs) longer.1, longer.2)
    ]

pub cut_at : (old : WorldState) (all : List (List ℕ)) (text : List ℕ) (new : WorldState) → Leads old all text new → (front back : List ℕ) → text ≡ front ++ back → (all ≡ [] → ⊥) → CutAt old all front
cut_at old [] text new led front back e some = absurd (some refl)
cut_at old (line ∷ []) text new (first, rest, mid, parts, answers, led) front back e some = record {
  lines = [];
  last = line;
  rest = [];
  are = refl;
  text = [];
  mid = old;
  led = (refl, refl);
  block = first;
  next = mid;
  answers = answers;
  begun = front;
  left = back;
  block_parts = sym (append-nil first) ∙ ap (λ t. first ++ t) (sym led.0) ∙ sym parts ∙ e;
  parts = refl;
}
cut_at old (line ∷ l ∷ lines) text new (first, rest, mid, parts, answers, led) front back e some =
    elim (either_longer first rest front back (sym parts ∙ e)) [
      | inl within ↦ record {
        lines = [];
        last = line;
        rest = l ∷ lines;
        are = refl;
        text = [];
        mid = old;
        led = (refl, refl);
        block = first;
        next = mid;
        answers = answers;
        begun = front;
        left = within.0;
        block_parts = within.1;
        parts = refl;
      }
      | inr behind ↦ let cut = cut_at mid (l ∷ lines) rest new led behind.0 back behind.2 (λ none. absurd (cc none)) in record {
        lines = line ∷ cut.lines;
        last = cut.last;
        rest = cut.rest;
        are = ap (λ ls. line ∷ ls) cut.are;
        text = first ++ cut.text;
        mid = cut.mid;
        led = (first, cut.text, mid, refl, answers, cut.led);
        block = cut.block;
        next = cut.next;
        answers = cut.answers;
        begun = cut.begun;
        left = cut.left;
        block_parts = cut.block_parts;
        parts = behind.1 ∙ ap (λ t. first ++ t) cut.parts ∙ sym (append_assoc first cut.text cut.begun);
      }
    ]
