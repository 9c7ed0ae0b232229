-- What is read of a record.
use Rattle.std.proofs.Common.{◌≡◌, ℕ, suc, ◌+◌, ◌-◌, ◌≤◌, ◌<◌, ◌^◌, min, List, [], ◌∷◌, length, take, drop, true, false, cond, Some, None, IsTrue, refl, sym, ap, subst, inl, inr, ◌∙◌, arith, length-take, length-drop}
use Rattle.std.proofs.lemmas.Bool.{cases_Bool, cond-true, cond-false}
use Rattle.std.proofs.lemmas.List.{take-take, drop-take, drop-drop}
use Rattle.std.specs.Int.{w32, from_be_bytes}
use Rattle.ld_keep.specs.Kept.{reach, length_field, is_record, lines_past, gate_past, last_gate, kept_lines, lines_from, record_in, record_here}
use Rattle.ld_keep.specs.Opening.{OpeningState, IsAtGate}
use Rattle.ld_keep.specs.Window.{WindowState, IsOfFile}
use Rattle.ld_keep.proofs.Records.{Fits, fits, lines_past-drop, gate_past-drop, record_lines, record_gate, lines_past-none, gate_past-none, gate_past_nil, lines_past_nil}
use Rattle.ld_keep.proofs.Images.{short, none_left}
use Rattle.ld_keep.proofs.Windows.{of_any_file}

-- five bytes tell the record
pub told_by_five : (bytes : List ℕ) (count : ℕ) → 5 ≤ length bytes → record_in (take 5 bytes) count ≡ record_in bytes count
told_by_five [] count five = absurd (omega arith)
told_by_five (gate ∷ behind) count five =
    let same : length_field (take 4 behind) ≡ length_field behind = ap (λ (l : List ℕ). from_be_bytes w32 l) (take-take 4 4 behind (omega arith)) in
    ap (λ (n : ℕ). cond (is_record gate n (count - 1)) (Some n) None) same

-- fewer than five tell none
pub none_by_fewer : (bytes : List ℕ) → length bytes < 5 → record_here bytes ≡ None
none_by_fewer [] few = refl
none_by_fewer (gate ∷ behind) few = cond-false (is_record gate (length_field behind) (length (gate ∷ behind) - 1)) _ _ (short gate (length_field behind) (length (gate ∷ behind) - 1) (omega arith))

-- What a record at the front of the bytes says of them, where the length of its line is this.
pub record Passes (bytes : List ℕ) (n : ℕ) : Type 0 where
  pub lines : lines_past 0 bytes ≡ take n (drop 5 bytes) ∷ lines_past 0 (drop (5 + n) bytes)
  pub gate : gate_past 0 bytes ≡ 5 + n + gate_past 0 (drop (5 + n) bytes)

pub passes : (bytes : List ℕ) (n : ℕ) → Some n ≡ record_here bytes → Passes bytes n
passes [] n is = absurd (cc is)
passes (gate ∷ behind) n is = elim (cases_Bool (is_record gate (length_field behind) (length (gate ∷ behind) - 1))) [
  | inl there ↦
      let is_told : record_here (gate ∷ behind) ≡ Some (length_field behind) = cond-true _ (Some (length_field behind)) None there in
      let told : length_field behind ≡ n = cc (is, is_told) in
      let rest : length (gate ∷ behind) - 1 ≡ length behind = omega arith in
      let f : Fits gate n (length behind) =
      subst (λ (k : ℕ). Fits gate k (length behind)) told (subst (λ (r : ℕ). Fits gate (length_field behind) r) rest (fits gate (length_field behind) (length (gate ∷ behind) - 1) there)) in
      let one : 5 + n ≡ suc (4 + n) = omega arith in
      let behind_it : drop (4 + n) behind ≡ drop (5 + n) (gate ∷ behind) = ap (λ (k : ℕ). drop k (gate ∷ behind)) (sym one) in
      let all : gate_past (4 + n) behind ≡ 4 + n + gate_past 0 (drop (4 + n) behind) = gate_past-drop (4 + n) behind (omega (arith, f.within)) in
      let at : gate_past 0 (drop (4 + n) behind) ≡ gate_past 0 (drop (5 + n) (gate ∷ behind)) = ap (λ (l : List ℕ). gate_past 0 l) behind_it in
      record {
        lines =
            record_lines gate n behind told f
            ∙ ap (λ (ls : List (List ℕ)). take n (drop 4 behind) ∷ ls) (lines_past-drop (4 + n) behind ∙ ap (λ (l : List ℕ). lines_past 0 l) behind_it);
        gate = omega (arith, record_gate gate n behind told f, all, at);
      }
  | inr none ↦ let is_none : record_here (gate ∷ behind) ≡ None = cond-false _ (Some (length_field behind)) None none in absurd (cc (is, is_none))
]

-- and where there is none
pub stops_here : (bytes : List ℕ) → None ≡ record_here bytes → (lines_past 0 bytes ≡ []) × (gate_past 0 bytes ≡ 0)
stops_here [] is = (lines_past_nil, gate_past_nil)
stops_here (gate ∷ behind) is = elim (cases_Bool (is_record gate (length_field behind) (length (gate ∷ behind) - 1))) [
  | inl there ↦ let is_told : record_here (gate ∷ behind) ≡ Some (length_field behind) = cond-true _ (Some (length_field behind)) None there in absurd (cc (is, is_told))
  | inr none ↦
      let rest : length (gate ∷ behind) - 1 ≡ length behind = omega arith in
      let shut : is_record gate (length_field behind) (length behind) ≡ false = ap (is_record gate (length_field behind)) (sym rest) ∙ none in
      (lines_past-none gate behind shut, gate_past-none gate behind shut)
]

-- ---- an opening

-- the line is that of the file
line_of_file : (file : List ℕ) (place n : ℕ) → place + 5 + n ≤ 2 ^ 40 → take n (drop 5 (drop place (reach file))) ≡ take n (drop (place + 5) file)
line_of_file file place n within =
    let m = 2 ^ 40 - (place + 5) in
    let whole : 2 ^ 40 ≡ place + 5 + m = omega arith in
    ap (take n) (drop-drop 5 place (reach file) ∙ ap (λ (k : ℕ). drop (place + 5) (take k file)) whole ∙ drop-take (place + 5) m file)
    ∙ take-take n m (drop (place + 5) file) (omega arith)

-- while other bytes of the file come to be held
module _ (o : OpeningState) (file : List ℕ) (at : IsAtGate o file) (window : WindowState) (of_file : IsOfFile window file) where
  pub stays : IsAtGate (record o { window = window }) file
  stays = record { limit = at.limit; gate = at.gate; ended = at.ended; window = of_file }

  pub ends : None ≡ record_here (drop o.place (reach file)) → (lines_from o.place file ≡ []) × IsAtGate (record o { ended = true; window = window }) file
  ends is =
      let none = stops_here (drop o.place (reach file)) is in
      (none.0, record { limit = at.limit; gate = at.gate; ended = λ _. none.0; window = of_file })

  pub goes_past : (n : ℕ) (line : List ℕ) (new : OpeningState) → Some n ≡ record_here (drop o.place (reach file)) → o.place + 5 + n < o.limit
      → line ≡ take n (drop (o.place + 5) file) → new ≡ record o { place = o.place + (n + 5); window = window }
      → (lines_from o.place file ≡ line ∷ lines_from new.place file) × IsAtGate new file
  goes_past n line new is within read new_is =
      let p = passes (drop o.place (reach file)) n is in
      let far : o.place + (n + 5) ≡ new.place = ap (λ s. s.place) (sym new_is) in
      let behind : drop (5 + n) (drop o.place (reach file)) ≡ drop new.place (reach file) =
      drop-drop (5 + n) o.place (reach file) ∙ ap (λ (k : ℕ). drop k (reach file)) (omega (arith, far)) in
      let inside : o.place + 5 + n ≤ 2 ^ 40 = omega (arith, within, at.limit, length-take (2 ^ 40) file) in
      let text : take n (drop 5 (drop o.place (reach file))) ≡ line = line_of_file file o.place n inside ∙ sym read in
      let lines : lines_from o.place file ≡ line ∷ lines_from new.place file =
      p.lines ∙ ap (λ (l : List ℕ). l ∷ lines_past 0 (drop (5 + n) (drop o.place (reach file)))) text
      ∙ ap (λ (l : List ℕ). line ∷ lines_past 0 l) behind in
      let gate_behind : gate_past 0 (drop (5 + n) (drop o.place (reach file))) ≡ gate_past 0 (drop new.place (reach file)) = ap (λ (l : List ℕ). gate_past 0 l) behind in (
        lines,
        record {
          limit = ap (λ s. s.limit) new_is ∙ at.limit;
          gate = omega (arith, at.gate, p.gate, gate_behind, far);
          ended = λ ended. absurd (cc (at.ended (subst IsTrue (ap (λ s. s.ended) new_is) ended), lines));
          window = subst (λ w. IsOfFile w file) (sym (ap (λ s. s.window) new_is)) of_file;
        },
      )

-- the five bytes that are read at a place tell the record there
pub head_of_file : (file : List ℕ) (place limit : ℕ) → limit ≡ length (reach file) → place ≤ limit → 5 ≤ limit - place
    → record_in (take 5 (drop place file)) (limit - place) ≡ record_here (drop place (reach file))
head_of_file file place limit is within five =
    let m = 2 ^ 40 - place in
    let size : limit ≡ min (2 ^ 40) (length file) = is ∙ length-take (2 ^ 40) file in
    let whole : 2 ^ 40 ≡ place + m = omega arith in
    let behind : drop place (reach file) ≡ take m (drop place file) = ap (λ (k : ℕ). drop place (take k file)) whole ∙ drop-take place m file in
    let count : limit - place ≡ length (drop place (reach file)) = omega (arith, is, length-drop place (reach file)) in
    let head : take 5 (drop place (reach file)) ≡ take 5 (drop place file) = ap (take 5) behind ∙ take-take 5 m (drop place file) (omega arith) in
    ap (λ (l : List ℕ). record_in l (limit - place)) (sym head)
    ∙ told_by_five (drop place (reach file)) (limit - place) (omega (arith, count))
    ∙ ap (record_in (drop place (reach file))) count

-- once no line is left, the place is that of the last gate
pub ended_at : (o : OpeningState) (file : List ℕ) → IsAtGate o file → IsTrue o.ended → last_gate file ≡ o.place
ended_at o file at ended = omega (arith, at.gate, none_left (drop o.place (reach file)) (at.ended ended))

-- at first the opening is at the first gate, and holds nothing
pub starts_at : (size : ℕ) (window : WindowState) (file : List ℕ) → size ≡ length file → window.held ≡ [] → IsAtGate (record { place = 0; limit = min size (2 ^ 40); ended = false; window = window }) file
unfolding last_gate
starts_at size window file is none = record {
  limit = omega (arith, is, length-take (2 ^ 40) file);
  gate = omega arith;
  ended = λ ended. absurd (cc ended);
  window = of_any_file window file none;
}

-- from there on stand all lines that the file keeps
pub all_from_start : (file : List ℕ) → lines_from 0 file ≡ kept_lines file
unfolding kept_lines
all_from_start file = refl
