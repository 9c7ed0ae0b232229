-- What the images of a torn write keep.
use Rattle.std.proofs.Common.{◌≡◌, ℕ, zero, suc, ◌+◌, ◌-◌, ◌≤◌, ◌<◌, ◌^◌, List, [], ◌∷◌, ◌++◌, length, take, drop, get_or, slice_get, Some, min, false, refl, sym, ap, subst, inl, inr, ◌∙◌, arith, append_assoc, append-nil, length-append, length-drop, length-take, take-append-drop}
use Rattle.std.proofs.lemmas.List.{take_at, drop_at, take-take, take_all, length-take-le, drop-take, drop_more, take_more, get_or-take, get_or-drop, nil_from_length}
use Rattle.std.proofs.lemmas.Option.{slice_get_within, get_or_from_slice_get, slice_get-get_or}
use Rattle.std.proofs.lemmas.Bool.{cases_Bool, cases_eq, cases_lt}
use Rattle.std.proofs.lemmas.Nat.{from_be_bytes-to_be_bytes_4}
use Rattle.std.specs.Int.{w32, from_be_bytes, to_be_bytes}
use Rattle.ld_keep.specs.Disk.{overwritten, Torn}
use Rattle.ld_keep.specs.Kept.{reach, length_field, is_record, lines_past, gate_past, kept_lines, last_gate, entry_of, KeepsOrAdds}
use Rattle.ld_keep.specs.Journal.{IsAtRest, with_line}
use Rattle.ld_keep.specs.Opening.{HasLastGate, IsHarmless}
use Rattle.ld_keep.proofs.Records.{fits, spliced, gate_past_nil, lines_past-record, lines_past-none, gate_past-none, gate_past-record, entry_lines, entry_gate}
use Rattle.ld_keep.proofs.Overwriting.{torn_overwritten}
use Rattle.ld_keep.proofs.Files.{take_across, last_gate-le, last_gate-within, rejoined, split_alike}

-- what is within reach behind a place
within_reach : (place : ℕ) (gate : ℕ) (more : List ℕ) → place < 2 ^ 40 → take (2 ^ 40 - place) (gate ∷ more) ≡ gate ∷ take (2 ^ 40 - place - 1) more
within_reach place gate more below =
    let one : 2 ^ 40 - place ≡ suc (2 ^ 40 - place - 1) = omega arith in
    ap (λ (k : ℕ). take k (gate ∷ more)) one

pub slice_get_at : (xs ys : List ℕ) (y n : ℕ) → length xs ≡ n → slice_get (xs ++ (y ∷ ys)) n ≡ Some y
slice_get_at [] ys y zero is = refl
slice_get_at [] ys y (suc n) is = absurd (omega arith)
slice_get_at (x ∷ xs) ys y zero is = absurd (omega arith)
slice_get_at (x ∷ xs) ys y (suc n) is = slice_get_at xs ys y n (omega arith)

-- The file keeps what the other does, and its last gate stands where that of the other does.
pub record KeepsAs (file other : List ℕ) (place : ℕ) : Type 0 where
  pub lines : kept_lines other ≡ kept_lines file
  pub gate : last_gate other ≡ place

-- behind the front up to the last gate a gate that opens no record keeps nothing
pub shut_behind : (file : List ℕ) (place gate : ℕ) (more : List ℕ) → last_gate file ≡ place → place < 2 ^ 40
    → is_record gate (length_field (take (2 ^ 40 - place - 1) more)) (length (take (2 ^ 40 - place - 1) more)) ≡ false
    → KeepsAs file (take place file ++ (gate ∷ more)) place
shut_behind file place gate more at below shut =
    let both = rejoined file (gate ∷ more) place at below (omega arith) in
    let rest = within_reach place gate more below in
    record {
      lines =
          both.lines
          ∙ ap (λ (l : List ℕ). kept_lines file ++ lines_past 0 l) rest
          ∙ ap (λ (ls : List (List ℕ)). kept_lines file ++ ls) (lines_past-none gate _ shut)
          ∙ append-nil (kept_lines file);
      gate =
          both.gate
          ∙ ap (λ (l : List ℕ). place + gate_past 0 l) rest
          ∙ ap (λ (k : ℕ). place + k) (gate_past-none gate _ shut)
          ∙ omega arith;
    }

no_one : (gate told rest : ℕ) → (gate ≡ 1 → ⊥) → is_record gate told rest ≡ false
no_one gate told rest other = elim (cases_Bool (is_record gate told rest)) [
  | inl is ↦ absurd (other (fits gate told rest is).gate)
  | inr is ↦ is
]

-- the same of the length that is told behind the gate
pub no_one_here : (gate : ℕ) (behind : List ℕ) → (gate ≡ 1 → ⊥) → is_record gate (length_field behind) (length behind) ≡ false
no_one_here gate behind other = no_one gate (length_field behind) (length behind) other

-- a file that begins as another one up to its last gate, which is not open, keeps what that one does
pub shut_front : (file other : List ℕ) (place gate : ℕ) → last_gate file ≡ place → slice_get file place ≡ Some gate → (gate ≡ 1 → ⊥)
    → take (place + 1) other ≡ take (place + 1) file → length file ≤ length other → KeepsAs file other place
shut_front file other place gate at is shut same longer =
    let within : place < length file = slice_get_within file place gate is in
    let below = last_gate-within file (omega arith) in
    let front : take place other ≡ take place file =
    sym (take-take place (place + 1) other (omega arith)) ∙ ap (take place) same ∙ take-take place (place + 1) file (omega arith) in
    let byte : get_or other place 0 ≡ gate =
    sym (get_or-take (place + 1) other place 0 (omega arith)) ∙ ap (λ (l : List ℕ). get_or l place 0) same
    ∙ get_or-take (place + 1) file place 0 (omega arith) ∙ get_or_from_slice_get file place gate 0 is in
    let whole : other ≡ take place file ++ (gate ∷ drop (place + 1) other) =
    split_alike file other place front (omega arith) ∙ ap (λ (b : ℕ). take place file ++ (b ∷ drop (place + 1) other)) byte in
    let keeps = shut_behind file place gate (drop (place + 1) other) at (omega (arith, below.1, at)) (no_one_here gate (take (2 ^ 40 - place - 1) (drop (place + 1) other)) shut) in
    record { lines = ap kept_lines whole ∙ keeps.lines; gate = ap last_gate whole ∙ keeps.gate }

-- what is written behind a closed gate keeps the lines
pub behind_keeps : (file image : List ℕ) (place n : ℕ) → IsAtRest place file → Torn (place + 1) n file image → kept_lines image ≡ kept_lines file
behind_keeps file image place n rests torn =
    (shut_front file image place 0 rests.gate rests.closed (λ is. cc) torn.before torn.no_shorter).lines

length-entry : (line : List ℕ) → length (entry_of line) ≡ 5 + length line
length-entry line = omega (arith, length-append line (0 ∷ []))

module _ (file line : List ℕ) (place : ℕ) (rests : IsAtRest place file) (some : 1 ≤ length line) (most : length line ≤ 65536) (room : place + 6 + length line ≤ 2 ^ 40) where
  abbrev after : List ℕ
  after = drop (place + 1 + length (entry_of line)) file

  there : place < length file
  there = slice_get_within file place 0 rests.closed

  -- the file with the entry behind its closed gate
  pub staged : overwritten (place + 1) (entry_of line) file ≡ take place file ++ (0 ∷ (entry_of line ++ after))
  staged =
      let byte : get_or file place 0 ≡ 0 = get_or_from_slice_get file place 0 0 rests.closed in
      ap (λ (l : List ℕ). l ++ (entry_of line ++ after)) (take_more file place 0 there ∙ ap (λ (b : ℕ). take place file ++ (b ∷ [])) byte)
      ∙ append_assoc (take place file) (0 ∷ []) (entry_of line ++ after)

  -- the same with any gate
  abbrev with_gate : ℕ → List ℕ
  with_gate gate = take place file ++ (gate ∷ (entry_of line ++ after))

  entry_within : take (2 ^ 40 - place) (1 ∷ (entry_of line ++ after)) ≡ 1 ∷ (to_be_bytes w32 (length line) ++ (line ++ (0 ∷ take (2 ^ 40 - place - 6 - length line) after)))
  entry_within =
      let y = take (2 ^ 40 - place - 6 - length line) after in
      within_reach place 1 (entry_of line ++ after) (omega arith)
      ∙ ap (λ (l : List ℕ). 1 ∷ l) (take_across (entry_of line) after (2 ^ 40 - place - 1) (2 ^ 40 - place - 6 - length line) (omega (arith, length-entry line))
      ∙ append_assoc (to_be_bytes w32 (length line)) (line ++ (0 ∷ [])) y
      ∙ ap (λ (l : List ℕ). to_be_bytes w32 (length line) ++ l) (append_assoc line (0 ∷ []) y))

  tells : from_be_bytes w32 (to_be_bytes w32 (length line)) ≡ length line
  tells = from_be_bytes-to_be_bytes_4 (length line) (omega arith)

  below : place < 2 ^ 40
  below = omega arith

  pub opened_lines : kept_lines (with_gate 1) ≡ kept_lines file ++ (line ∷ [])
  opened_lines =
      (rejoined file (1 ∷ (entry_of line ++ after)) place rests.gate below (omega arith)).lines
      ∙ ap (λ (l : List ℕ). kept_lines file ++ lines_past 0 l) entry_within
      ∙ ap (λ (ls : List (List ℕ)). kept_lines file ++ ls) (entry_lines (to_be_bytes w32 (length line)) line _ refl tells some most)

  pub opened_gate : last_gate (with_gate 1) ≡ place + 5 + length line
  opened_gate =
      (rejoined file (1 ∷ (entry_of line ++ after)) place rests.gate below (omega arith)).gate
      ∙ ap (λ (l : List ℕ). place + gate_past 0 l) entry_within
      ∙ ap (λ (k : ℕ). place + k) (entry_gate (to_be_bytes w32 (length line)) line _ refl tells some most)
      ∙ omega arith

  -- the gate before the entry opens the record or it does not
  pub gate_keeps : (gate : ℕ) → KeepsOrAdds (kept_lines file) line (with_gate gate)
  gate_keeps gate = elim (cases_eq gate 1) [
    | inl is ↦ inr (ap (λ (b : ℕ). kept_lines (with_gate b)) is ∙ opened_lines)
    | inr other ↦ inl (shut_behind file place gate (entry_of line ++ after) rests.gate below (no_one_here gate (take (2 ^ 40 - place - 1) (entry_of line ++ after)) other)).lines
  ]

  count : length (take place file) ≡ place
  count = length-take-le place file (omega (arith, there))

  pub torn_gate : (image : List ℕ) → Torn place 1 (with_gate 0) image → KeepsOrAdds (kept_lines file) line image
  torn_gate image torn =
      let front : take place image ≡ take place file = torn.before ∙ take_at (take place file) _ place count in
      let long : length (with_gate 0) ≡ place + suc (length (entry_of line ++ after)) = omega (arith, length-append (take place file) (0 ∷ (entry_of line ++ after)), count) in
      let behind : drop (place + 1) image ≡ entry_of line ++ after =
      torn.after ∙ ap (drop (place + 1)) (sym (append_assoc (take place file) (0 ∷ []) (entry_of line ++ after)))
      ∙ drop_at (take place file ++ (0 ∷ [])) (entry_of line ++ after) (place + 1) (omega (arith, length-append (take place file) (0 ∷ []), count)) in
      let whole : image ≡ with_gate (get_or image place 0) =
      split_alike file image place front (omega (arith, torn.no_shorter)) ∙ ap (λ (l : List ℕ). take place file ++ (get_or image place 0 ∷ l)) behind in
      subst (KeepsOrAdds (kept_lines file) line) (sym whole) (gate_keeps (get_or image place 0))

  -- both writes done
  pub opened : overwritten place (1 ∷ []) (with_gate 0) ≡ with_gate 1
  opened =
      ap (λ (l : List ℕ). l ++ ((1 ∷ []) ++ drop (place + 1) (with_gate 0))) (take_at (take place file) _ place count)
      ∙ ap (λ (l : List ℕ). take place file ++ (1 ∷ l)) (ap (drop (place + 1)) (sym (append_assoc (take place file) (0 ∷ []) (entry_of line ++ after)))
      ∙ drop_at (take place file ++ (0 ∷ [])) (entry_of line ++ after) (place + 1) (omega (arith, length-append (take place file) (0 ∷ []), count)))

  pub is_with_line : with_gate 1 ≡ with_line place line file
  is_with_line = ap (λ (k : ℕ). take place file ++ (1 ∷ (entry_of line ++ drop k file))) (omega arith)

  pub next_closed : slice_get (with_gate 1) (place + 5 + length line) ≡ Some 0
  next_closed =
      let told = to_be_bytes w32 (length line) in
      let front = take place file ++ (1 ∷ (told ++ line)) in
      let split : with_gate 1 ≡ front ++ (0 ∷ after) =
      ap (λ (l : List ℕ). take place file ++ (1 ∷ l)) (append_assoc told (line ++ (0 ∷ [])) after ∙ ap (λ (l : List ℕ). told ++ l) (append_assoc line (0 ∷ []) after) ∙ sym (append_assoc told line (0 ∷ after)))
      ∙ sym (append_assoc (take place file) (1 ∷ (told ++ line)) (0 ∷ after)) in
      ap (λ (l : List ℕ). slice_get l (place + 5 + length line)) split
      ∙ slice_get_at front after 0 (place + 5 + length line) (omega (arith, length-append (take place file) (1 ∷ (told ++ line)), count))

  pub at_rest : IsAtRest (place + 5 + length line) (with_gate 1)
  at_rest = record { gate = opened_gate; closed = next_closed }

-- the last gate opens no record
stops : (bytes : List ℕ) → gate_past 0 (drop (gate_past 0 bytes) bytes) ≡ 0
stops bytes = elim (cases_lt 0 (length (drop (gate_past 0 bytes) bytes))) [
  | inl some ↦
      let again = (spliced 0 bytes (drop (gate_past 0 bytes) bytes) (omega arith) some).gate in
      let same : gate_past 0 bytes ≡ gate_past 0 bytes + gate_past 0 (drop (gate_past 0 bytes) bytes) =
      ap (λ (l : List ℕ). gate_past 0 l) (sym (take-append-drop (gate_past 0 bytes) bytes)) ∙ again in
      omega (arith, same)
  | inr nothing ↦
      let empty : drop (gate_past 0 bytes) bytes ≡ [] = nil_from_length _ (omega arith) in
      ap (λ (l : List ℕ). gate_past 0 l) empty ∙ gate_past_nil
]

-- a gate with fewer than five bytes from its own on opens no record
pub short : (gate told rest : ℕ) → rest < 5 → is_record gate told rest ≡ false
short gate told rest few = elim (cases_Bool (is_record gate told rest)) [
  | inl is ↦ let f = fits gate told rest is in absurd (omega (arith, f.within, f.some))
  | inr is ↦ is
]

-- what no open gate opens, no other opens
any_gate : (gate told rest : ℕ) → is_record 1 told rest ≡ false → is_record gate told rest ≡ false
any_gate gate told rest shut = elim (cases_eq gate 1) [
  | inl is ↦ ap (λ (b : ℕ). is_record b told rest) is ∙ shut
  | inr other ↦ no_one gate told rest other
]

pub harmless_short : (file : List ℕ) (place : ℕ) → last_gate file ≡ place → length (reach file) < place + 5 → IsHarmless place file
harmless_short file place at few = record {
  gate = at;
  shut = λ gate.
      short gate (length_field (drop (place + 1) (reach file))) (length (drop (place + 1) (reach file))) (omega (arith, length-drop (place + 1) (reach file)));
}

-- the open gate of no record
closes : (behind : List ℕ) → gate_past 0 (1 ∷ behind) ≡ 0 → is_record 1 (length_field behind) (length behind) ≡ false
closes behind ends = elim (cases_Bool (is_record 1 (length_field behind) (length behind))) [
  | inl is ↦ let step : gate_past 0 (1 ∷ behind) ≡ suc (gate_past (4 + length_field behind) behind) = gate_past-record 1 behind is in absurd (omega (arith, step))
  | inr is ↦ is
]

zero_told : (gate told rest : ℕ) → told ≡ 0 → is_record gate told rest ≡ false
zero_told gate told rest none = elim (cases_Bool (is_record gate told rest)) [
  | inl is ↦ absurd (omega (arith, (fits gate told rest is).some))
  | inr is ↦ is
]

pub harmless_open : (file : List ℕ) (place : ℕ) → last_gate file ≡ place → slice_get file place ≡ Some 1 → IsHarmless place file
unfolding last_gate
harmless_open file place at is =
    let within : place < length file = slice_get_within file place 1 is in
    let F = reach file in
    let size : length F ≡ min (2 ^ 40) (length file) = length-take (2 ^ 40) file in
    let inside : place < length F = omega (arith, (last_gate-within file (omega arith)).1, at) in
    let byte : get_or F place 0 ≡ 1 = get_or-take (2 ^ 40) file place 0 (omega arith) ∙ get_or_from_slice_get file place 1 0 is in
    let here : drop place F ≡ 1 ∷ drop (place + 1) F = drop_more F place 0 inside ∙ ap (λ (b : ℕ). b ∷ drop (place + 1) F) byte in
    let ends : gate_past 0 (1 ∷ drop (place + 1) F) ≡ 0 = ap (λ (l : List ℕ). gate_past 0 l) (sym here) ∙ ap (λ (k : ℕ). gate_past 0 (drop k F)) (sym at) ∙ stops F in
    record { gate = at; shut = λ gate. any_gate gate (length_field (drop (place + 1) F)) (length (drop (place + 1) F)) (closes (drop (place + 1) F) ends) }

pub harmless_cleared : (file : List ℕ) (place gate : ℕ) (more : List ℕ) → last_gate file ≡ place → place + 5 ≤ 2 ^ 40 → length (take place file) ≡ place → (gate ≡ 1 → ⊥)
    → IsHarmless place (take place file ++ (gate ∷ 0 ∷ 0 ∷ 0 ∷ 0 ∷ more))
harmless_cleared file place gate more at room count other =
    let behind = 0 ∷ 0 ∷ 0 ∷ 0 ∷ more in
    let m = 2 ^ 40 - place - 1 in
    let under : place < 2 ^ 40 = omega arith in
    let keeps = shut_behind file place gate behind at under (no_one_here gate (take (2 ^ 40 - place - 1) behind) other) in
    let m_is : 2 ^ 40 ≡ place + 1 + m = omega arith in
    let rest : drop (place + 1) (reach (take place file ++ (gate ∷ behind))) ≡ take m behind =
    ap (λ (k : ℕ). drop (place + 1) (take k (take place file ++ (gate ∷ behind)))) m_is
    ∙ drop-take (place + 1) m (take place file ++ (gate ∷ behind))
    ∙ ap (λ (l : List ℕ). take m (drop (place + 1) l)) (sym (append_assoc (take place file) (gate ∷ []) behind))
    ∙ ap (take m) (drop_at (take place file ++ (gate ∷ [])) behind (place + 1) (omega (arith, length-append (take place file) (gate ∷ []), count))) in
    let told : length_field (take m behind) ≡ 0 = ap (λ (l : List ℕ). from_be_bytes w32 l) (take-take 4 m behind (omega arith)) in
    record {
      gate = keeps.gate;
      shut = λ g. ap (λ (l : List ℕ). is_record g (length_field l) (length l)) rest ∙ zero_told g (length_field (take m behind)) (length (take m behind)) told;
    }

-- the file with a gate in that place
pub harmless_put : (file : List ℕ) (place gate : ℕ) → IsHarmless place file → place < 2 ^ 40 → KeepsAs file (take place file ++ (gate ∷ drop (place + 1) file)) place
harmless_put file place gate harmless below =
    let whole : place + 1 + (2 ^ 40 - place - 1) ≡ 2 ^ 40 = omega arith in
    let rest : take (2 ^ 40 - place - 1) (drop (place + 1) file) ≡ drop (place + 1) (reach file) =
    sym (drop-take (place + 1) (2 ^ 40 - place - 1) file) ∙ ap (λ (k : ℕ). drop (place + 1) (take k file)) whole in
    shut_behind file place gate (drop (place + 1) file) harmless.gate below
    (ap (λ (l : List ℕ). is_record gate (length_field l) (length l)) rest ∙ harmless.shut gate)

harmless_image : (file image : List ℕ) (place : ℕ) → IsHarmless place file → place < 2 ^ 40 → Torn place 1 file image → place < length image → KeepsAs file image place
harmless_image file image place harmless below torn within =
    let whole : image ≡ take place file ++ (get_or image place 0 ∷ drop (place + 1) file) =
    split_alike file image place torn.before within ∙ ap (λ (l : List ℕ). take place file ++ (get_or image place 0 ∷ l)) torn.after in
    let keeps = harmless_put file place (get_or image place 0) harmless below in
    record { lines = ap kept_lines whole ∙ keeps.lines; gate = ap last_gate whole ∙ keeps.gate }

-- a gate torn where none opens a record keeps the lines
pub harmless_keeps : (file image : List ℕ) (place : ℕ) → IsHarmless place file → place < 2 ^ 40 → Torn place 1 file image → kept_lines image ≡ kept_lines file
harmless_keeps file image place harmless below torn = elim (cases_lt place (length image)) [
  | inl within ↦ (harmless_image file image place harmless below torn within).lines
  | inr past ↦
      let le = last_gate-le file in
      ap kept_lines (sym (take_all place image past) ∙ torn.before ∙ take_all place file (omega (arith, torn.no_shorter)))
]

pub harmless_within : (file : List ℕ) (place : ℕ) → IsHarmless place file → place ≤ length file
harmless_within file place harmless = omega (arith, harmless.gate, last_gate-le file, length-take (2 ^ 40) file)

-- with a closed gate there it rests
pub harmless_rests : (file : List ℕ) (place : ℕ) → IsHarmless place file → place < 2 ^ 40 → IsAtRest place (overwritten place (0 ∷ []) file)
harmless_rests file place harmless below = record {
  gate = (harmless_put file place 0 harmless below).gate;
  closed = slice_get_at (take place file) (drop (place + 1) file) 0 place (length-take-le place file (harmless_within file place harmless));
}

-- the length behind a gate is cleared
cleared : (file : List ℕ) (place gate : ℕ) → HasLastGate place gate file
    → overwritten (place + 1) (0 ∷ 0 ∷ 0 ∷ 0 ∷ []) file ≡ take place file ++ (gate ∷ 0 ∷ 0 ∷ 0 ∷ 0 ∷ drop (place + 1 + 4) file)
cleared file place gate has =
    let within : place < length file = slice_get_within file place gate has.byte in
    let byte : get_or file place 0 ≡ gate = get_or_from_slice_get file place gate 0 has.byte in
    let rest = 0 ∷ 0 ∷ 0 ∷ 0 ∷ drop (place + 1 + 4) file in
    ap (λ (l : List ℕ). l ++ rest) (take_more file place 0 within ∙ ap (λ (b : ℕ). take place file ++ (b ∷ [])) byte)
    ∙ append_assoc (take place file) (gate ∷ []) rest

pub cleared_harmless : (file : List ℕ) (place gate : ℕ) → HasLastGate place gate file → (gate ≡ 1 → ⊥) → place + 5 ≤ 2 ^ 40
    → IsHarmless place (overwritten (place + 1) (0 ∷ 0 ∷ 0 ∷ 0 ∷ []) file)
cleared_harmless file place gate has other room =
    let within : place < length file = slice_get_within file place gate has.byte in
    subst (IsHarmless place) (sym (cleared file place gate has))
    (harmless_cleared file place gate (drop (place + 1 + 4) file) has.at room (length-take-le place file (omega arith)) other)

pub cleared_keeps : (file : List ℕ) (place gate : ℕ) → HasLastGate place gate file → (gate ≡ 1 → ⊥) → place + 5 ≤ 2 ^ 40
    → kept_lines (overwritten (place + 1) (0 ∷ 0 ∷ 0 ∷ 0 ∷ []) file) ≡ kept_lines file
cleared_keeps file place gate has other room =
    let behind = 0 ∷ 0 ∷ 0 ∷ 0 ∷ drop (place + 1 + 4) file in
    ap kept_lines (cleared file place gate has)
    ∙ (shut_behind file place gate behind has.at (omega arith) (no_one_here gate (take (2 ^ 40 - place - 1) behind) other)).lines

-- the last gate stands where no line is kept any more
pub none_left : (bytes : List ℕ) → lines_past 0 bytes ≡ [] → gate_past 0 bytes ≡ 0
none_left [] none = gate_past_nil
none_left (gate ∷ behind) none = elim (cases_Bool (is_record gate (length_field behind) (length behind))) [
  | inl is ↦
      let some : lines_past 0 (gate ∷ behind) ≡ take (length_field behind) (drop 4 behind) ∷ lines_past (4 + length_field behind) behind = lines_past-record gate behind is in
      absurd (cc (some, none))
  | inr is ↦ gate_past-none gate behind is
]

pub read_gate : (file into : List ℕ) (place count : ℕ) → count ≡ 1 → place < length file → into ≡ take count (drop place file) → slice_get file place ≡ Some (get_or into 0 0)
read_gate file into place count one within is =
    let byte : get_or into 0 0 ≡ get_or file place 0 =
    ap (λ (l : List ℕ). get_or l 0 0) (is ∙ ap (λ (k : ℕ). take k (drop place file)) one)
    ∙ get_or-take 1 (drop place file) 0 0 (omega arith) ∙ get_or-drop place file 0 0 ∙ ap (λ (k : ℕ). get_or file k 0) (omega arith) in
    slice_get-get_or file place 0 within ∙ ap Some (sym byte)

pub gate_there : (file : List ℕ) (place gate : ℕ) → HasLastGate place gate file → place + 1 ≤ length file
gate_there file place gate has = let within : place < length file = slice_get_within file place gate has.byte in omega arith

module _ (file line : List ℕ) (place : ℕ) (rests : IsAtRest place file) (some : 1 ≤ length line) (most : length line ≤ 65536) (room : place + 6 + length line ≤ 2 ^ 40) where
  -- what stands once the entry is written
  pub entry_room : place ≤ length (overwritten (place + 1) (entry_of line) file)
  entry_room =
      let within : place < length file = slice_get_within file place 0 rests.closed in
      omega (arith, (torn_overwritten (place + 1) (entry_of line) file (omega arith)).no_shorter)

  -- what stands once the gate is opened
  pub written : overwritten place (1 ∷ []) (overwritten (place + 1) (entry_of line) file) ≡ with_line place line file
  written =
      ap (overwritten place (1 ∷ [])) (staged file line place rests some most room)
      ∙ opened file line place rests some most room
      ∙ is_with_line file line place rests some most room

  pub written_rests : IsAtRest (place + 5 + length line) (with_line place line file)
  written_rests = subst (IsAtRest (place + 5 + length line)) (is_with_line file line place rests some most room) (at_rest file line place rests some most room)

  pub written_lines : kept_lines (with_line place line file) ≡ kept_lines file ++ (line ∷ [])
  written_lines = ap kept_lines (sym (is_with_line file line place rests some most room)) ∙ opened_lines file line place rests some most room

  -- and what a crash may leave of the gate
  pub opening_keeps : (image : List ℕ) → Torn place 1 (overwritten (place + 1) (entry_of line) file) image → KeepsOrAdds (kept_lines file) line image
  opening_keeps image torn =
      torn_gate file line place rests some most room image (subst (λ (f : List ℕ). Torn place 1 f image) (staged file line place rests some most room) torn)
