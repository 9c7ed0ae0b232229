-- The records that stand one behind the other in a list of bytes.
use Rattle.std.proofs.Common.{◌≡◌, ℕ, zero, suc, ◌+◌, ◌≤◌, ◌<◌, List, [], ◌∷◌, ◌++◌, length, take, drop, true, false, refl, sym, ap, subst, inl, inr, ◌∙◌, arith, length-append, append_assoc}
use Rattle.std.proofs.lemmas.Bool.{cases_Bool, cond-true, cond-false}
use Rattle.std.proofs.lemmas.Bool.Decides.{nat_tests}
use Rattle.std.proofs.lemmas.List.{take_at, drop_at, take-append-le, take-take, length-take-le, drop-take}
use Rattle.std.specs.Int.{w32, from_be_bytes}
use Rattle.ld_keep.specs.Kept.{length_field, is_record, lines_past, gate_past}

-- what a record promises
pub record Fits (g t r : ℕ) : Type 0 where
  pub gate : g ≡ 1
  pub some : 1 ≤ t
  pub most : t ≤ 65536
  pub within : 4 + t < r

pub fits : (gate told rest : ℕ) → is_record gate told rest ≡ true → Fits gate told rest
fits gate told rest is = record {
  gate = grind (arith, nat_tests);
  some = grind (arith, nat_tests);
  most = grind (arith, nat_tests);
  within = grind (arith, nat_tests);
}

pub from_fits : (gate told rest : ℕ) → Fits gate told rest → is_record gate told rest ≡ true
from_fits gate told rest f = let a = f.gate in let b = f.some in let c = f.most in let d = f.within in grind (arith, nat_tests)

-- the bytes that are passed do not matter
pub lines_past-drop : (passed : ℕ) (bytes : List ℕ) → lines_past passed bytes ≡ lines_past 0 (drop passed bytes)
unfolding lines_past
lines_past-drop zero [] = refl
lines_past-drop (suc passed) [] = refl
lines_past-drop zero (b ∷ bytes) = refl
lines_past-drop (suc passed) (b ∷ bytes) = lines_past-drop passed bytes

pub gate_past-drop : (passed : ℕ) (bytes : List ℕ) → passed ≤ length bytes → gate_past passed bytes ≡ passed + gate_past 0 (drop passed bytes)
unfolding gate_past
gate_past-drop zero [] le = refl
gate_past-drop (suc passed) [] le = absurd (omega arith)
gate_past-drop zero (b ∷ bytes) le = omega arith
gate_past-drop (suc passed) (b ∷ bytes) le = omega (arith, gate_past-drop passed bytes (omega arith))

pub lines_past_nil : lines_past 0 [] ≡ []
unfolding lines_past
lines_past_nil = refl

pub gate_past_nil : gate_past 0 [] ≡ 0
unfolding gate_past
gate_past_nil = refl

-- a record is passed in one step
pub lines_past-record : (gate : ℕ) (behind : List ℕ) → is_record gate (length_field behind) (length behind) ≡ true
    → lines_past 0 (gate ∷ behind) ≡ take (length_field behind) (drop 4 behind) ∷ lines_past (4 + length_field behind) behind
unfolding lines_past
lines_past-record gate behind is = cond-true _ _ _ is

pub gate_past-record : (gate : ℕ) (behind : List ℕ) → is_record gate (length_field behind) (length behind) ≡ true
    → gate_past 0 (gate ∷ behind) ≡ suc (gate_past (4 + length_field behind) behind)
unfolding gate_past
gate_past-record gate behind is = cond-true _ _ _ is

-- and what is no record is the end
pub lines_past-none : (gate : ℕ) (behind : List ℕ) → is_record gate (length_field behind) (length behind) ≡ false → lines_past 0 (gate ∷ behind) ≡ []
unfolding lines_past
lines_past-none gate behind is = cond-false _ _ _ is

pub gate_past-none : (gate : ℕ) (behind : List ℕ) → is_record gate (length_field behind) (length behind) ≡ false → gate_past 0 (gate ∷ behind) ≡ 0
unfolding gate_past
gate_past-none gate behind is = cond-false _ _ _ is

-- the last gate stands at or behind what is passed, and within the bytes
pub gate_past-least : (passed : ℕ) (bytes : List ℕ) → passed ≤ length bytes → passed ≤ gate_past passed bytes
gate_past-least passed bytes le = omega (arith, gate_past-drop passed bytes le)

pub gate_past-within : (passed : ℕ) (bytes : List ℕ) → passed < length bytes → gate_past passed bytes < length bytes
unfolding gate_past
gate_past-within passed [] lt = absurd (omega arith)
gate_past-within zero (gate ∷ behind) lt = elim (cases_Bool (is_record gate (length_field behind) (length behind))) [
  | inl is ↦
      let f = fits gate (length_field behind) (length behind) is in
      let step : gate_past 0 (gate ∷ behind) ≡ suc (gate_past (4 + length_field behind) behind) = gate_past-record gate behind is in
      omega (arith, step, gate_past-within (4 + length_field behind) behind f.within)
  | inr is ↦ let step : gate_past 0 (gate ∷ behind) ≡ 0 = gate_past-none gate behind is in omega (arith, step)
]
gate_past-within (suc passed) (b ∷ bytes) lt = omega (arith, gate_past-within passed bytes (omega arith))

-- What stands before the last gate, with other bytes from there on.
pub record Spliced (passed : ℕ) (bytes more : List ℕ) : Type 0 where
  pub lines : lines_past passed (take (gate_past passed bytes) bytes ++ more) ≡ lines_past passed bytes ++ lines_past 0 more
  pub gate : gate_past passed (take (gate_past passed bytes) bytes ++ more) ≡ gate_past passed bytes + gate_past 0 more

-- so many bytes of the front stay, whatever is put behind them
pub same_front : (m G : ℕ) (bytes more : List ℕ) → m ≤ G → G ≤ length bytes → take m (take G bytes ++ more) ≡ take m bytes
same_front m G bytes more le within = take-append-le m (take G bytes) more (omega (arith, length-take-le G bytes within)) ∙ take-take m G bytes le

-- with them the length that is told, and the line
told_alike : (n : ℕ) (a b : List ℕ) → take (4 + n) a ≡ take (4 + n) b → length_field a ≡ length_field b
told_alike n a b same =
    ap (λ bytes. from_be_bytes w32 bytes) (sym (take-take 4 (4 + n) a (omega arith)) ∙ ap (take 4) same ∙ take-take 4 (4 + n) b (omega arith))

line_alike : (n : ℕ) (a b : List ℕ) → take (4 + n) a ≡ take (4 + n) b → take n (drop 4 a) ≡ take n (drop 4 b)
line_alike n a b same = sym (drop-take 4 n a) ∙ ap (drop 4) same ∙ drop-take 4 n b

-- a record of a length that is known
pub record_lines : (gate n : ℕ) (behind : List ℕ) → length_field behind ≡ n → Fits gate n (length behind)
    → lines_past 0 (gate ∷ behind) ≡ take n (drop 4 behind) ∷ lines_past (4 + n) behind
record_lines gate n behind told f =
    subst (λ (k : ℕ). lines_past 0 (gate ∷ behind) ≡ take k (drop 4 behind) ∷ lines_past (4 + k) behind) told
    (lines_past-record gate behind (from_fits gate (length_field behind) (length behind) (subst (λ (k : ℕ). Fits gate k (length behind)) (sym told) f)))

pub record_gate : (gate n : ℕ) (behind : List ℕ) → length_field behind ≡ n → Fits gate n (length behind)
    → gate_past 0 (gate ∷ behind) ≡ suc (gate_past (4 + n) behind)
record_gate gate n behind told f =
    subst (λ (k : ℕ). gate_past 0 (gate ∷ behind) ≡ suc (gate_past (4 + k) behind)) told
    (gate_past-record gate behind (from_fits gate (length_field behind) (length behind) (subst (λ (k : ℕ). Fits gate k (length behind)) (sym told) f)))

-- the record at the front stays, and so does what stands behind it
spliced_record : (gate : ℕ) (behind more : List ℕ) → is_record gate (length_field behind) (length behind) ≡ true → 0 < length more
    → Spliced (4 + length_field behind) behind more → Spliced 0 (gate ∷ behind) more
unfolding lines_past gate_past
spliced_record gate behind more is some rest =
    let n = length_field behind in
    let f = fits gate n (length behind) is in
    let G = gate_past (4 + n) behind in
    let least : 4 + n ≤ G = gate_past-least (4 + n) behind (omega (arith, f.within)) in
    let within : G < length behind = gate_past-within (4 + n) behind f.within in
    let after = take G behind ++ more in
    let front : take (4 + n) after ≡ take (4 + n) behind = same_front (4 + n) G behind more least (omega arith) in
    let tells : length_field after ≡ n = told_alike n after behind front in
    let count : length after ≡ G + length more = omega (arith, length-append (take G behind) more, length-take-le G behind (omega arith)) in
    let g : Fits gate n (length after) = record { gate = f.gate; some = f.some; most = f.most; within = omega arith } in
    let at : gate_past 0 (gate ∷ behind) ≡ suc G = gate_past-record gate behind is in
    record {
      lines =
          ap (λ (k : ℕ). lines_past 0 (take k (gate ∷ behind) ++ more)) at
          ∙ record_lines gate n after tells g
          ∙ ap (λ (line : List ℕ). line ∷ lines_past (4 + n) after) (line_alike n after behind front)
          ∙ ap (λ (lines : List (List ℕ)). take n (drop 4 behind) ∷ lines) rest.lines
          ∙ ap (λ (lines : List (List ℕ)). lines ++ lines_past 0 more) (sym (lines_past-record gate behind is));
      gate =
          ap (λ (k : ℕ). gate_past 0 (take k (gate ∷ behind) ++ more)) at
          ∙ record_gate gate n after tells g
          ∙ omega (arith, rest.gate, at);
    }

spliced_end : (gate : ℕ) (behind more : List ℕ) → is_record gate (length_field behind) (length behind) ≡ false → Spliced 0 (gate ∷ behind) more
unfolding lines_past gate_past
spliced_end gate behind more is =
    let at : gate_past 0 (gate ∷ behind) ≡ 0 = gate_past-none gate behind is in
    record {
      lines =
          ap (λ (k : ℕ). lines_past 0 (take k (gate ∷ behind) ++ more)) at
          ∙ ap (λ (lines : List (List ℕ)). lines ++ lines_past 0 more) (sym (lines_past-none gate behind is));
      gate = ap (λ (k : ℕ). gate_past 0 (take k (gate ∷ behind) ++ more)) at ∙ omega (arith, at);
    }

pub spliced : (passed : ℕ) (bytes more : List ℕ) → passed ≤ length bytes → 0 < length more → Spliced passed bytes more
unfolding lines_past gate_past
spliced zero [] more le some = record { lines = refl; gate = omega arith }
spliced (suc passed) [] more le some = absurd (omega arith)
spliced zero (gate ∷ behind) more le some = elim (cases_Bool (is_record gate (length_field behind) (length behind))) [
  | inl is ↦ spliced_record gate behind more is some (spliced (4 + length_field behind) behind more (omega (arith, (fits gate (length_field behind) (length behind) is).within)) some)
  | inr is ↦ spliced_end gate behind more is
]
spliced (suc passed) (b ∷ bytes) more le some =
    let rest = spliced passed bytes more (omega arith) some in
    record { lines = rest.lines; gate = omega (arith, rest.gate) }

-- an open gate, the length of a line and the line, with more bytes behind it
pub record_then : (told line rest : List ℕ) → length told ≡ 4 → from_be_bytes w32 told ≡ length line → 1 ≤ length line → length line ≤ 65536 → 0 < length rest
    → lines_past 0 (1 ∷ (told ++ (line ++ rest))) ≡ line ∷ lines_past 0 rest
record_then told line rest four is some most more =
    let behind = told ++ (line ++ rest) in
    let tells : length_field behind ≡ length line = ap (λ bytes. from_be_bytes w32 bytes) (take_at told (line ++ rest) 4 four) ∙ is in
    let count : length behind ≡ 4 + length line + length rest = omega (arith, length-append told (line ++ rest), length-append line rest) in
    let f : Fits 1 (length line) (length behind) = record { gate = refl; some = some; most = most; within = omega arith } in
    let text : take (length line) (drop 4 behind) ≡ line = ap (take (length line)) (drop_at told (line ++ rest) 4 four) ∙ take_at line rest (length line) refl in
    let left : drop (4 + length line) behind ≡ rest =
    ap (drop (4 + length line)) (sym (append_assoc told line rest)) ∙ drop_at (told ++ line) rest (4 + length line) (omega (arith, length-append told line)) in
    record_lines 1 (length line) behind tells f
    ∙ ap (λ (first : List ℕ). first ∷ lines_past (4 + length line) behind) text
    ∙ ap (λ (others : List (List ℕ)). line ∷ others) (lines_past-drop (4 + length line) behind ∙ ap (λ (bytes : List ℕ). lines_past 0 bytes) left)

-- the entry of a line behind an open gate, and a closed gate behind it
pub entry_lines : (told line more : List ℕ) → length told ≡ 4 → from_be_bytes w32 told ≡ length line → 1 ≤ length line → length line ≤ 65536
    → lines_past 0 (1 ∷ (told ++ (line ++ (0 ∷ more)))) ≡ line ∷ []
entry_lines told line more four is some most =
    record_then told line (0 ∷ more) four is some most (omega arith) ∙ ap (λ (others : List (List ℕ)). line ∷ others) (lines_past-none 0 more refl)

pub entry_gate : (told line more : List ℕ) → length told ≡ 4 → from_be_bytes w32 told ≡ length line → 1 ≤ length line → length line ≤ 65536
    → gate_past 0 (1 ∷ (told ++ (line ++ (0 ∷ more)))) ≡ 5 + length line
entry_gate told line more four is some most =
    let behind = told ++ (line ++ (0 ∷ more)) in
    let tells : length_field behind ≡ length line = ap (λ bytes. from_be_bytes w32 bytes) (take_at told (line ++ (0 ∷ more)) 4 four) ∙ is in
    let count : length behind ≡ 4 + length line + suc (length more) = omega (arith, length-append told (line ++ (0 ∷ more)), length-append line (0 ∷ more)) in
    let f : Fits 1 (length line) (length behind) = record { gate = refl; some = some; most = most; within = omega arith } in
    let rest : drop (4 + length line) behind ≡ 0 ∷ more =
    ap (drop (4 + length line)) (sym (append_assoc told line (0 ∷ more))) ∙ drop_at (told ++ line) (0 ∷ more) (4 + length line) (omega (arith, length-append told line)) in
    let next : gate_past (4 + length line) behind ≡ 4 + length line + gate_past 0 (drop (4 + length line) behind) = gate_past-drop (4 + length line) behind (omega arith) in
    let last : gate_past 0 (drop (4 + length line) behind) ≡ 0 = ap (λ (bytes : List ℕ). gate_past 0 bytes) rest ∙ gate_past-none 0 more refl in
    omega (arith, record_gate 1 (length line) behind tells f, next, last)
