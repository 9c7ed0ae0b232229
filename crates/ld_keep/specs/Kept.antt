-- The lines that a file of records keeps. A record is a gate byte, the length of the line as four bytes with the highest
-- first, and the line. After it stands the next gate.
use Rattle.std.specs.Prelude.{ℕ, zero, suc, ◌+◌, ◌-◌, ◌^◌, List, [], ◌∷◌, ◌++◌, length, take, drop, Bool, ◌&&◌, ◌==◌, nat_le, nat_lt, if◌then◌else◌, Option, Some, None, ◌≡◌, ◌⊎◌}
use Rattle.std.specs.Int.{w32, from_be_bytes, to_be_bytes}

-- The bytes of a file that may hold records: the first 2^40.
abbrev pub reach : List ℕ → List ℕ
reach file = take (2 ^ 40) file

-- The length that stands at the head of these bytes.
abbrev pub length_field : List ℕ → ℕ
length_field bytes = from_be_bytes w32 (take 4 bytes)

-- Whether a record stands here, by its gate, the length after it, and how many bytes stand after the gate. The gate is
-- 1, the length is 1 to 65,536, and the record and the next gate lie within those bytes.
abbrev pub is_record : ℕ → ℕ → ℕ → Bool
is_record gate size rest = gate == 1 && (nat_le 1 size && (nat_le size 65536 && nat_lt (4 + size) rest))

-- The lines of the records that stand one after the other, once `passed` bytes are passed.
unfoldable pub lines_past : ℕ → List ℕ → List (List ℕ)
lines_past passed [] = []
lines_past zero (gate ∷ rest) =
    let size = length_field rest in
    if is_record gate size (length rest) then take size (drop 4 rest) ∷ lines_past (4 + size) rest else []
lines_past (suc passed) (_ ∷ bytes) = lines_past passed bytes

-- How many bytes stand before the first gate that opens no record, once `passed` are passed.
unfoldable pub gate_past : ℕ → List ℕ → ℕ
gate_past passed [] = 0
gate_past zero (gate ∷ rest) =
    let size = length_field rest in
    if is_record gate size (length rest) then suc (gate_past (4 + size) rest) else 0
gate_past (suc passed) (_ ∷ bytes) = suc (gate_past passed bytes)

-- The lines that a file keeps.
unfoldable pub kept_lines : List ℕ → List (List ℕ)
kept_lines file = lines_past 0 (reach file)

-- The place of its last gate.
unfoldable pub last_gate : List ℕ → ℕ
last_gate file = gate_past 0 (reach file)

-- The lines that it keeps from a place on.
abbrev pub lines_from : ℕ → List ℕ → List (List ℕ)
lines_from place file = lines_past 0 (drop place (reach file))

-- The length of the line of the record at the front of these bytes, if one stands there. The count is of all bytes from
-- its gate on, of which these may be the first ones.
abbrev pub record_in : List ℕ → ℕ → Option ℕ
record_in [] count = None
record_in (gate ∷ rest) count = if is_record gate (length_field rest) (count - 1) then Some (length_field rest) else None

-- The same of all the bytes that there are.
abbrev pub record_here : List ℕ → Option ℕ
record_here bytes = record_in bytes (length bytes)

-- What is written after the last gate: the length of the line, the line, and a closed gate.
abbrev pub entry_of : List ℕ → List ℕ
entry_of line = to_be_bytes w32 (length line) ++ (line ++ (0 ∷ []))

-- A file keeps these lines, or these and one more.
abbrev pub KeepsOrAdds : List (List ℕ) → List ℕ → List ℕ → Type 0
KeepsOrAdds lines line file = (kept_lines file ≡ lines) ⊎ (kept_lines file ≡ lines ++ (line ∷ []))
