-- Lines that are answered one after the other, and the steps that they took.
use Rattle.std.proofs.Common.{ℕ, List, [], ◌∷◌, ◌++◌, ◌≡◌, ◌<◌, ◌≤◌, ◌+◌, length, Option, Some, None, IfSome, true, false, refl, sym, ◌∙◌, ap, subst, append_assoc, append-nil, arith}
use Rattle.std.proofs.lemmas.Grind.{common_steps}
use Rattle.ld_base.specs.Outside.{then_piece}
use Rattle.ld_base.proofs.Pieces.{then_piece-nil, then_piece-append}
use Rattle.ld_lines.specs.Answer.{Answer, WholeLine, OverLine, NoLine, Fault, TooLong, HandsOut}
use Rattle.ld_lines.specs.Handed.{Handed}
use Rattle.ld_lines.specs.Lines.{lines_of}
use Rattle.ld_lines.specs.Reading.{LinesRead}
use Rattle.ld_lines.proofs.Handed.{Handed-first, Handed-next}
use Rattle.ld_globals.specs.Store.{KeepsWrites}
use Rattle.ld_globals.proofs.Keeping.{keeps-same}
use Rattle.ld_run.specs.declared.reply.Reply.{Reply}
use Rattle.ld_world.specs.Answers.{RepliesTo, line_of}
use Rattle.ld_world.specs.Counting.{CountsTurn, TakesAnswer, WorkedAll, answer_steps, is_line}
use Rattle.ld_world.specs.LineWork.{StampsAfter, TakesLine, TakesLines, line_steps}
use Rattle.ld_world.specs.WorldView.{WorldView, world_of}
use Rattle.ld_world.proofs.Stamps.{stamps_apart}

-- What was taken of a source, which lines were handed out, what of their replies was written and what waits, and the
-- steps since the first line was asked for.
pub record IsCounted (at_first : WorldView) (first before : Option (List ℕ)) (r : LinesRead) (left : Option (List ℕ)) (world : WorldView) (written : Option (List ℕ)) (waiting : List ℕ) (begun spent : ℕ) : Type 0 where
  pub bytes : List ℕ
  pub lines : List (List ℕ)
  pub text : List ℕ
  pub most : ℕ
  pub handed : Handed first bytes lines r left
  pub taken : TakesLines at_first lines (text ++ waiting) most world
  pub wrote : written ≡ then_piece before text
  pub within : spent ≤ begun + most

pub IsCounted-first : (world : WorldView) (first before : Option (List ℕ)) (r : LinesRead) (waiting : List ℕ) (begun : ℕ) → r.held ≡ [] → r.taken ≡ 0 → r.ended ≡ false → waiting ≡ []
    → IsCounted world first before r first world before waiting begun begun
IsCounted-first world first before r waiting begun nothing zero going none = record {
  bytes = [];
  lines = [];
  text = [];
  most = 0;
  handed = Handed-first first r nothing zero going;
  taken = (none, refl, refl);
  wrote = sym (then_piece-nil before);
  within = omega arith;
}

-- One more line at the end.
pub TakesLines-more : (old : WorldView) (lines : List (List ℕ)) (text : List ℕ) (most : ℕ) (mid : WorldView) (line block : List ℕ) (new : WorldView)
    → TakesLines old lines text most mid → TakesLine mid (line_of line) block new
    → TakesLines old (lines ++ line ∷ []) (text ++ block) (most + line_steps mid (line_of line)) new
TakesLines-more old [] text most mid line block new (no_text, none, same) takes = (
  block,
  [],
  new,
  0,
  ap (λ (t : List ℕ). t ++ block) no_text ∙ sym (append-nil block),
  subst (λ (w : WorldView). most + line_steps mid (line_of line) ≡ line_steps w (line_of line) + 0) same (omega (arith, none)),
  subst (λ (w : WorldView). TakesLine w (line_of line) block new) same takes,
  (refl, refl, refl),
)
TakesLines-more old (l ∷ lines) text most mid line block new (first, rest, between, more, parts, sum, one, others) takes = (
  first,
  rest ++ block,
  between,
  more + line_steps mid (line_of line),
  ap (λ (t : List ℕ). t ++ block) parts ∙ append_assoc first rest block,
  omega (arith, sum),
  one,
  TakesLines-more between lines rest more mid line block new others takes,
)

line_of-over : (line : List ℕ) → 65536 < length line → line_of line ≡ None
line_of-over line h = grind (arith, common_steps)

-- One more line is handed out and answered; of what waits and its answer a beginning is written.
on : {at_first : WorldView} {first before : Option (List ℕ)} {old new : LinesRead} {left now : Option (List ℕ)} {world next : WorldView} {written after : Option (List ℕ)} {waiting rest : List ℕ} {begun spent later : ℕ}
    (way : IsCounted at_first first before old left world written waiting begun spent) (line text front : List ℕ)
    → ((bytes : List ℕ) × Handed first bytes (way.lines ++ line ∷ []) new now) → TakesLine world (line_of line) text next
    → later ≤ spent + line_steps world (line_of line) → waiting ++ text ≡ front ++ rest → after ≡ then_piece written front
    → IsCounted at_first first before new now next after rest begun later
on {at_first = at_first} {before = before} {world = world} {next = next} {waiting = waiting} {rest = rest} way line text front handed takes few parts wrote = record {
  bytes = handed.0;
  lines = way.lines ++ line ∷ [];
  text = way.text ++ front;
  most = way.most + line_steps world (line_of line);
  handed = handed.1;
  taken = subst (λ t. TakesLines at_first (way.lines ++ line ∷ []) t (way.most + line_steps world (line_of line)) next)
      (append_assoc way.text waiting text ∙ ap (λ t. way.text ++ t) parts ∙ sym (append_assoc way.text front rest))
      (TakesLines-more at_first way.lines (way.text ++ waiting) way.most world line text next way.taken takes);
  wrote = wrote ∙ ap (λ w. then_piece w front) way.wrote ∙ then_piece-append before way.text front;
  within = omega (arith, way.within, few);
}

module _ {at_first : WorldView} {first before : Option (List ℕ)} {old new : LinesRead} {left now : Option (List ℕ)} {world next : WorldView} {written : Option (List ℕ)} {waiting text : List ℕ} {begun spent later : ℕ} {Goes Ends : Type 0}
    (way : IsCounted at_first first before old left world written waiting begun spent)
    (turn : CountsTurn old left world spent text new now next later Goes Ends) where
  pub IsCounted-next : {after : Option (List ℕ)} {rest : List ℕ} (front : List ℕ) → Goes → waiting ++ text ≡ front ++ rest → after ≡ then_piece written front
      → IsCounted at_first first before new now next after rest begun later
  IsCounted-next {after} {rest} front goes parts wrote = by turn.answer turn.out turn.takes turn.counted (turn.goes goes)
    where
      by : (answer : Answer) → HandsOut old left answer new now → TakesAnswer world answer text next → later ≤ spent + answer_steps world answer → is_line answer ≡ true
          → IsCounted at_first first before new now next after rest begun later
      by (WholeLine line) out takes few is = on way line text front (Handed-next (WholeLine line) way.handed out) takes few parts wrote
      by OverLine out takes few is =
          let handed = Handed-next OverLine way.handed out in
          let over = line_of-over handed.1 handed.2 in
          on way handed.1 text front (handed.0, handed.3) (subst (λ o. TakesLine world o text next) (sym over) takes)
          (subst (λ o. later ≤ spent + line_steps world o) (sym over) few) parts wrote
      by NoLine out takes few is = absurd (cc is)
      by Fault out takes few is = absurd (cc is)
      by TooLong out takes few is = absurd (cc is)

  -- A source that told its end, where nothing waits.
  pub worked_all : Ends → ((piece : List ℕ) → lines_of (old.held ++ piece) ≡ [] → waiting ≡ []) → WorkedAll at_first first before written begun later
  worked_all ends nothing = by turn.answer (turn.ends ends) turn.out turn.counted
    where
      told : (source : Option (List ℕ)) (bytes : List ℕ) → waiting ≡ [] → IfSome source (λ all. bytes ≡ all) → lines_of bytes ≡ way.lines → later ≤ spent + 0
          → WorkedAll at_first source before written begun later
      told None bytes none all same few = tt
      told (Some whole) bytes none all same few = (
        way.text,
        way.most,
        world,
        subst (λ ls. TakesLines at_first ls way.text way.most world) (sym same ∙ ap lines_of all)
            (subst (λ t. TakesLines at_first way.lines t way.most world) (ap (λ w. way.text ++ w) none ∙ append-nil way.text) way.taken),
        way.wrote,
        omega (arith, way.within, few),
      )

      by : (answer : Answer) → answer ≡ NoLine → HandsOut old left answer new now → later ≤ spent + answer_steps world answer → WorkedAll at_first first before written begun later
      by NoLine is out few =
          let s = Handed-next NoLine way.handed out in
          told first s.0 (nothing out.piece out.bytes.0) s.4 s.2 few
      by (WholeLine line) is out few = absurd (cc is)
      by OverLine is out few = absurd (cc is)
      by Fault is out few = absurd (cc is)
      by TooLong is out few = absurd (cc is)

-- ---- a line that is too long

-- Its reply leaves the world as it was.
pub bad_line : (old : WorldView) (reply : Reply) (text : List ℕ) (new : WorldView) → RepliesTo (world_of old) None reply text (world_of new) → new ≡ old → TakesLine old None text new
bad_line old reply text new replies same = record {
  reply = reply;
  replies = replies;
  stamps = subst (λ (w : WorldView). StampsAfter old.runs None reply w.store.stamp w.runs) (sym same) (stamps_apart old.runs None reply old.store.stamp (λ name. refl));
  writes = subst (λ (w : WorldView). KeepsWrites old.store w.store) (sym same) (keeps-same old.store);
}
