-- A replay under way: what was taken, which lines were handed out, what was written for them, and what waits.
use Rattle.std.proofs.Common.{ℕ, Bool, List, [], ◌∷◌, ◌++◌, ◌≡◌, ◌<◌, ◌≤◌, ◌^◌, length, Option, Some, None, true, false, refl, sym, ◌∙◌, ap, append_assoc, append-nil, ◌⊎◌, ◌+◌, arith, inl, inr, Ok, Err, subst}
use Rattle.std.proofs.lemmas.Grind.{common_steps}
use Rattle.ld_base.specs.Outside.{piece_then, then_piece, AddsPrefix}
use Rattle.ld_lines.specs.Answer.{Answer, WholeLine, OverLine, NoLine, Fault, TooLong, HandsOut}
use Rattle.ld_lines.specs.Handed.{Handed}
use Rattle.ld_lines.specs.Lines.{lines_of, ended_lines_of}
use Rattle.ld_lines.specs.Reading.{LinesRead, IsEnd}
use Rattle.ld_lines.proofs.Handed.{Handed-first, Handed-next}
use Rattle.ld_lines.specs.declared.stop.LineStop.TheVariants.{ReadFault, InputTooLong}
use Rattle.ld_world.specs.Answers.{AnswersLine, Leads, line_of}
use Rattle.ld_world.specs.World.{WorldState}
use Rattle.ld_top.specs.Sending.{AddsFront}
use Rattle.ld_base.proofs.Pieces.{then_piece-nil, then_piece-append}
use Rattle.ld_top.proofs.CutReplies.{cut_at}
use Rattle.ld_top.proofs.HeldLines.{none_at_all, none_ended}
use Rattle.ld_top.specs.Answering.{AnswersWhat, Answered, AnsweredAll, AnsweredTaken, AnsweredCut, BeginsWithLines}

pub record IsUnderWay (at_first : WorldState) (first : Option (List ℕ)) (before : Option (List ℕ)) (r : LinesRead) (left : Option (List ℕ)) (world : WorldState) (written : Option (List ℕ)) (waiting : List ℕ) : Type 0 where
  pub bytes : List ℕ
  pub lines : List (List ℕ)
  pub text : List ℕ
  pub handed : Handed first bytes lines r left
  pub led : Leads at_first lines (text ++ waiting) world
  pub wrote : written ≡ then_piece before text

pub IsUnderWay-first : (world : WorldState) (first before : Option (List ℕ)) (r : LinesRead) (waiting : List ℕ) → r.held ≡ [] → r.taken ≡ 0 → r.ended ≡ false → waiting ≡ [] → IsUnderWay world first before r first world before waiting
IsUnderWay-first world first before r waiting nothing zero going none = record { bytes = []; lines = []; text = []; handed = Handed-first first r nothing zero going; led = (none, refl); wrote = sym (then_piece-nil before) }

-- Where nothing waits, all replies were written.
led_all : {at_first : WorldState} {first before : Option (List ℕ)} {r : LinesRead} {left : Option (List ℕ)} {world : WorldState} {written : Option (List ℕ)} {waiting : List ℕ} (way : IsUnderWay at_first first before r left world written waiting) → waiting ≡ [] → Leads at_first way.lines way.text world
led_all {at_first = at_first} {world = world} way none = subst (λ t. Leads at_first way.lines t world) (ap (λ w. way.text ++ w) none ∙ append-nil way.text) way.led

-- One more line at the end.
Leads-more : (old : WorldState) (lines : List (List ℕ)) (text : List ℕ) (mid : WorldState) (line : List ℕ) (block : List ℕ) (new : WorldState) → Leads old lines text mid → AnswersLine mid (line_of line) block new → Leads old (lines ++ line ∷ []) (text ++ block) new
Leads-more old [] text mid line block new led answers = (block, [], new, grind (arith, common_steps), subst (λ w. AnswersLine w (line_of line) block new) led.1 answers, (refl, refl))
Leads-more old (l ∷ lines) text mid line block new led answers = (led.0, led.1 ++ block, led.2, rw led.3 (append_assoc led.0 led.1 block), led.4, Leads-more led.2 lines led.1 mid line block new led.5 answers)

line_of-long : (line : List ℕ) → 65536 < length line → line_of line ≡ None
line_of-long line h = grind (arith, common_steps)

-- One more line is handed out and answered; of what waits and its answer a beginning is written.
on : {at_first : WorldState} {first before : Option (List ℕ)} {old new : LinesRead} {left now : Option (List ℕ)} {world next : WorldState} {written after : Option (List ℕ)} {waiting rest : List ℕ} (way : IsUnderWay at_first first before old left world written waiting) (line text : List ℕ) → ((bytes : List ℕ) × Handed first bytes (way.lines ++ line ∷ []) new now) → AnswersLine world (line_of line) text next → AddsFront written (waiting ++ text) after rest → IsUnderWay at_first first before new now next after rest
on {at_first = at_first} {before = before} {next = next} {waiting = waiting} {rest = rest} way line text handed answers (front, parts, wrote) = record {
  bytes = handed.0;
  lines = way.lines ++ line ∷ [];
  text = way.text ++ front;
  handed = handed.1;
  led = subst (λ t. Leads at_first (way.lines ++ line ∷ []) t next)
      (append_assoc way.text waiting text ∙ ap (λ t. way.text ++ t) parts ∙ sym (append_assoc way.text front rest))
      (Leads-more _ way.lines (way.text ++ waiting) _ line text _ way.led answers);
  wrote = wrote ∙ ap (λ w. then_piece w front) way.wrote ∙ then_piece-append before way.text front;
}

pub IsUnderWay-next : {at_first : WorldState} {first before : Option (List ℕ)} {old new : LinesRead} {left now : Option (List ℕ)} {world next : WorldState} {written after : Option (List ℕ)} {waiting rest : List ℕ} (text : List ℕ) (way : IsUnderWay at_first first before old left world written waiting) (answer : Answer) → HandsOut old left answer new now → AnswersWhat world answer (Ok true) text next → AddsFront written (waiting ++ text) after rest → IsUnderWay at_first first before new now next after rest
IsUnderWay-next text way (WholeLine line) out what wrote = on way line text (Handed-next (WholeLine line) way.handed out) what.1 wrote
IsUnderWay-next {world = world} {next = next} text way OverLine out what wrote =
    let handed = Handed-next OverLine way.handed out in
    on way handed.1 text (handed.0, handed.3) (subst (λ o. AnswersLine world o text next) (sym (line_of-long handed.1 handed.2)) what.1) wrote
IsUnderWay-next text way NoLine out what wrote = absurd (cc what.0)
IsUnderWay-next text way Fault out what wrote = absurd (cc what.0)
IsUnderWay-next text way TooLong out what wrote = absurd (cc what.0)

-- The bytes that are still to come get fewer with each line.
pub falls : {old new : LinesRead} {left now : Option (List ℕ)} (world next : WorldState) (text : List ℕ) (answer : Answer) → HandsOut old left answer new now → AnswersWhat world answer (Ok true) text next → length new.held + old.taken < length old.held + new.taken
falls world next text (WholeLine line) out what = out.progress
falls world next text OverLine out what = out.progress
falls world next text NoLine out what = absurd (cc what.0)
falls world next text Fault out what = absurd (cc what.0)
falls world next text TooLong out what = absurd (cc what.0)

-- A source that failed.
pub stopped_by_fault : {at_first : WorldState} {first before : Option (List ℕ)} {old new : LinesRead} {left now : Option (List ℕ)} {world : WorldState} {written : Option (List ℕ)} {waiting : List ℕ} (next : WorldState) (text : List ℕ) → IsUnderWay at_first first before old left world written waiting → (ended_lines_of old.held ≡ [] → waiting ≡ []) → (answer : Answer) → HandsOut old left answer new now → AnswersWhat world answer (Err ReadFault) text next → AnsweredTaken (λ n. n < 2 ^ 40) at_first first now before written
stopped_by_fault next text way waits (WholeLine line) out what = absurd (cc what.0)
stopped_by_fault next text way waits OverLine out what = absurd (cc what.0)
stopped_by_fault next text way waits NoLine out what = absurd (cc what.0)
stopped_by_fault {at_first = at_first} {old = old} {world = world} next text way waits Fault out what =
    let s = Handed-next Fault way.handed out in
    let led = led_all way (waits (none_ended old.held out.piece out.bytes.0)) in
    (s.0, s.1.left, rw (← s.1.counted) out.bytes.2, (way.text, (world, subst (λ ls. Leads at_first ls way.text world) (sym s.1.by_feed) led), way.wrote))
stopped_by_fault next text way waits TooLong out what = absurd (cc what.0)

-- An input that is too long.
pub stopped_by_length : {at_first : WorldState} {first before : Option (List ℕ)} {old new : LinesRead} {left now : Option (List ℕ)} {world : WorldState} {written : Option (List ℕ)} {waiting : List ℕ} (next : WorldState) (text : List ℕ) → IsUnderWay at_first first before old left world written waiting → (ended_lines_of old.held ≡ [] → waiting ≡ []) → (answer : Answer) → HandsOut old left answer new now → AnswersWhat world answer (Err InputTooLong) text next → AnsweredTaken (λ n. n ≡ 2 ^ 40) at_first first now before written
stopped_by_length next text way waits (WholeLine line) out what = absurd (cc what.0)
stopped_by_length next text way waits OverLine out what = absurd (cc what.0)
stopped_by_length next text way waits NoLine out what = absurd (cc what.0)
stopped_by_length next text way waits Fault out what = absurd (cc what.0)
stopped_by_length {at_first = at_first} {old = old} {world = world} next text way waits TooLong out what =
    let s = Handed-next TooLong way.handed out in
    let led = led_all way (waits (none_ended old.held out.piece out.bytes.0)) in
    (s.0, s.1.left, rw (← s.1.counted) out.bytes.2, (way.text, (world, subst (λ ls. Leads at_first ls way.text world) (sym s.1.by_feed) led), way.wrote))

all_given : (first : Option (List ℕ)) (bytes : List ℕ) (now : Option (List ℕ)) → first ≡ piece_then bytes now → IsEnd now → (first ≡ None) ⊎ ((first ≡ Some bytes) × (now ≡ Some []))
all_given first bytes None e end = inl e
all_given first bytes (Some rest) e end = inr (e ∙ ap Some (rw end (append-nil bytes)), ap Some end)

told_end : (first : Option (List ℕ)) (at_first : WorldState) (bytes : List ℕ) (now before written : Option (List ℕ)) → (first ≡ None) ⊎ ((first ≡ Some bytes) × (now ≡ Some [])) → length bytes < 2 ^ 40 → Answered at_first (lines_of bytes) before written → AnsweredAll at_first first now before written
told_end None at_first bytes now before written found below answered = tt
told_end (Some all) at_first bytes now before written (inl e) below answered = absurd (cc e)
told_end (Some all) at_first bytes now before written (inr e) below answered =
    let same : all ≡ bytes = cc e.0 in
    (e.1, rw same below, subst (λ b. Answered at_first (lines_of b) before written) (sym same) answered)

-- A source that told its end.
pub ended_well : {at_first : WorldState} {first before : Option (List ℕ)} {old new : LinesRead} {left now : Option (List ℕ)} {world : WorldState} {written : Option (List ℕ)} {waiting : List ℕ} (next : WorldState) (text : List ℕ) → IsUnderWay at_first first before old left world written waiting → (ended_lines_of old.held ≡ [] → waiting ≡ []) → (answer : Answer) → HandsOut old left answer new now → AnswersWhat world answer (Ok false) text next → AnsweredAll at_first first now before written
ended_well next text way waits (WholeLine line) out what = absurd (cc what.0)
ended_well next text way waits OverLine out what = absurd (cc what.0)
ended_well {at_first = at_first} {first = first} {before = before} {old = old} {now = now} {world = world} {written = written} next text way waits NoLine out what =
    let s = Handed-next NoLine way.handed out in
    let led = led_all way (waits (none_at_all old.held out.piece out.bytes.0)) in
    told_end first at_first s.0 now before written
    (all_given first s.0 now s.1.left (s.1.knows_end out.bytes.2)) s.3
    (way.text, (world, subst (λ ls. Leads at_first ls way.text world) (sym s.2) led), way.wrote)
ended_well next text way waits Fault out what = absurd (cc what.0)
ended_well next text way waits TooLong out what = absurd (cc what.0)

-- The bytes that were taken begin with the lines that were handed out.
first_lines : {first : Option (List ℕ)} {bytes : List ℕ} {lines : List (List ℕ)} {r : LinesRead} {now : Option (List ℕ)} → Handed first bytes lines r now → (ended : Bool) → r.ended ≡ ended → BeginsWithLines bytes now lines
first_lines {bytes = bytes} {lines = lines} {r = r} handed false going =
    (ended_lines_of r.held, inl (rw (append-nil bytes, append-nil r.held) at (handed.leaves.by_feed [] going)))
first_lines {bytes = bytes} {lines = lines} {r = r} handed true told =
    (lines_of r.held, inr (handed.knows_end told, rw (append-nil bytes, append-nil r.held) at (handed.leaves.every [] (λ _. refl))))

-- Fewer lines.
fewer_lines : (bytes : List ℕ) (left : Option (List ℕ)) (lines rest : List (List ℕ)) (last : List ℕ) → BeginsWithLines bytes left (lines ++ last ∷ rest) → BeginsWithLines bytes left (lines ++ last ∷ [])
fewer_lines bytes left lines rest last (more, inl e) =
    (rest ++ more, inl (e ∙ append_assoc lines (last ∷ rest) more ∙ sym (append_assoc lines (last ∷ []) (rest ++ more))))
fewer_lines bytes left lines rest last (more, inr e) =
    (rest ++ more, inr (e.0, e.1 ∙ append_assoc lines (last ∷ rest) more ∙ sym (append_assoc lines (last ∷ []) (rest ++ more))))

not_empty : (lines : List (List ℕ)) (line : List ℕ) → lines ++ line ∷ [] ≡ [] → ⊥
not_empty [] line e = absurd (cc e)
not_empty (l ∷ lines) line e = absurd (cc e)

-- One more line was handed out and answered; of what waited and its answer a beginning was written.
begun : {at_first : WorldState} {first before : Option (List ℕ)} {old new : LinesRead} {left now : Option (List ℕ)} {world : WorldState} {written after : Option (List ℕ)} {waiting : List ℕ} (next : WorldState) (way : IsUnderWay at_first first before old left world written waiting) (line text : List ℕ) → ((bytes : List ℕ) × Handed first bytes (way.lines ++ line ∷ []) new now) → new.taken ≤ 2 ^ 40 → AnswersLine world (line_of line) text next → AddsPrefix written (waiting ++ text) after → AnsweredCut at_first first now before after
begun {at_first = at_first} {before = before} {new = new} {waiting = waiting} next way line text handed limit answers (front, back, parts, added) =
    let led = Leads-more _ way.lines (way.text ++ waiting) _ line text _ way.led answers in
    let all : (way.text ++ waiting) ++ text ≡ (way.text ++ front) ++ back =
    append_assoc way.text waiting text ∙ ap (λ t. way.text ++ t) parts ∙ sym (append_assoc way.text front back) in
    let cut = cut_at at_first (way.lines ++ line ∷ []) ((way.text ++ waiting) ++ text) next led (way.text ++ front) back all (not_empty way.lines line) in
    let begins = first_lines handed.1 new.ended refl in
    let wrote = added ∙ ap (λ w. then_piece w front) way.wrote ∙ then_piece-append before way.text front ∙ ap (then_piece before) cut.parts ∙ sym (then_piece-append before cut.text cut.begun) in (
      handed.0,
      handed.1.left,
      rw (← handed.1.counted) limit,
      cut.lines,
      cut.last,
      fewer_lines _ _ cut.lines cut.rest cut.last (rw cut.are at begins),
      (cut.text, cut.mid, cut.led, cut.block, cut.next, cut.answers, (cut.begun, cut.left, cut.block_parts, wrote)),
    )

-- A sink that failed.
pub stopped_by_sink : {at_first : WorldState} {first before : Option (List ℕ)} {old new : LinesRead} {left now : Option (List ℕ)} {world : WorldState} {written after : Option (List ℕ)} {waiting : List ℕ} (next : WorldState) (text : List ℕ) → IsUnderWay at_first first before old left world written waiting → (answer : Answer) → HandsOut old left answer new now → AnswersWhat world answer (Ok true) text next → AddsPrefix written (waiting ++ text) after → AnsweredCut at_first first now before after
stopped_by_sink next text way (WholeLine line) out what adds = begun next way line text (Handed-next (WholeLine line) way.handed out) out.limit what.1 adds
stopped_by_sink {world = world} next text way OverLine out what adds =
    let handed = Handed-next OverLine way.handed out in
    begun next way handed.1 text (handed.0, handed.3) out.limit (subst (λ o. AnswersLine world o text next) (sym (line_of-long handed.1 handed.2)) what.1) adds
stopped_by_sink next text way NoLine out what adds = absurd (cc what.0)
stopped_by_sink next text way Fault out what adds = absurd (cc what.0)
stopped_by_sink next text way TooLong out what adds = absurd (cc what.0)
