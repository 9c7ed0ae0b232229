-- Durations: `P11574074DT1H46M39S`. (docs/FORMATS.md, "Values")
use Rattle.std.specs.Prelude.{◌≡◌, ℕ, ◌+◌, ◌*◌, ◌/◌, ◌%◌, List, [], ◌∷◌, ◌++◌, length, take, drop, Bool, true, false, ◌&&◌, ◌||◌, ◌==◌, nat_le, if◌then◌else◌, IsTrue, Option, Some, None, is_some, codes}
use Rattle.std.specs.Str.{byte}
use Rattle.std.specs.Str.Parse.{digits_value}
use Rattle.std.specs.Char.{is_ascii_digit}
use Rattle.std.specs.Fmt.{decimal}
use Rattle.std.specs.List.{prefix_len}
use Rattle.std.specs.Option.{option_and_then}
use Rattle.ld_value.specs.Numeral.{is_numeral}

-- The digits of each part of a duration, where it is there.
pub record Parts : Type 0 where
  pub days : Option (List ℕ)
  pub hours : Option (List ℕ)
  pub minutes : Option (List ℕ)
  pub seconds : Option (List ℕ)

-- There is a part below the days.
abbrev pub has_time : Parts → Bool
has_time p = is_some p.hours || (is_some p.minutes || is_some p.seconds)

-- A part that is there is written as its digits and its letter.
abbrev pub part_text : ℕ → Option (List ℕ) → List ℕ
part_text letter None = []
part_text letter (Some digits) = digits ++ letter ∷ []

-- `T` and the parts below the days, where there are any.
abbrev pub time_text : Parts → List ℕ
time_text p =
    if has_time p then codes "T" ++ part_text (byte "H") p.hours ++ part_text (byte "M") p.minutes ++ part_text (byte "S") p.seconds
    else []

-- The whole text of a duration: `P`, the days, and the parts below them.
abbrev pub duration_text : Parts → List ℕ
duration_text p = codes "P" ++ part_text (byte "D") p.days ++ time_text p

-- The part is absent, or has 1 to 12 digits.
abbrev pub is_part : Option (List ℕ) → Bool
is_part None = true
is_part (Some digits) = is_numeral 12 digits

-- The number of a part, 0 where it is absent.
abbrev pub part_number : Option (List ℕ) → ℕ
part_number None = 0
part_number (Some digits) = digits_value 10 digits

-- The seconds of all parts together; a day has 86,400.
unfoldable pub seconds_of : Parts → ℕ
seconds_of p = 86400 * part_number p.days + 3600 * part_number p.hours + 60 * part_number p.minutes + part_number p.seconds

-- Each part that is there has 1 to 12 digits.
abbrev pub has_numerals : Parts → Bool
has_numerals p = is_part p.days && (is_part p.hours && (is_part p.minutes && is_part p.seconds))

-- One part or more is there, each of 1 to 12 digits, of at most 999,999,999,999 seconds together.
unfoldable pub is_duration : Parts → Bool
is_duration p = (is_some p.days || has_time p) && (has_numerals p && nat_le (seconds_of p) 999999999999)

-- The text is a duration of n seconds: it is the text of some such parts.
pub record IsDuration (text : List ℕ) (n : ℕ) : Type 0 where
  pub parts : Parts
  pub form : text ≡ duration_text parts
  pub fits : IsTrue (is_duration parts)
  pub number : n ≡ seconds_of parts

-- ---- the parts of a text, if it has the form

-- How many digits stand at the text's front.
abbrev pub digit_count : List ℕ → ℕ
digit_count text = prefix_len is_ascii_digit text

-- The text's first byte is this letter.
abbrev pub begins_with : ℕ → List ℕ → Bool
begins_with letter [] = false
begins_with letter (b ∷ bs) = b == letter

-- The part with this letter at the text's front, and the text after it.
unfoldable pub front_part : ℕ → List ℕ → Option (List ℕ) × List ℕ
front_part letter text =
    let after = drop (digit_count text) text in
    if begins_with letter after then (Some (take (digit_count text) text), drop 1 after) else (None, text)

-- The parts below the days, if the text has no more than those and one of them.
unfoldable pub time_in : Option (List ℕ) → List ℕ → Option Parts
time_in days text =
    let h = front_part (byte "H") text in
    let m = front_part (byte "M") h.1 in
    let s = front_part (byte "S") m.1 in
    let p : Parts = record { days = days; hours = h.0; minutes = m.0; seconds = s.0 } in
    if (length s.1 == 0) && has_time p then Some p else None

-- The same where `T` stands before them, or the text has ended.
abbrev pub time_after : Option (List ℕ) → List ℕ → Option Parts
time_after days [] = Some (record { days = days; hours = None; minutes = None; seconds = None })
time_after days (b ∷ rest) = if b == byte "T" then time_in days rest else None

-- The parts of a text that begins with `P`.
abbrev pub parts_in : List ℕ → Option Parts
parts_in [] = None
parts_in (b ∷ rest) = if b == byte "P" then (let d = front_part (byte "D") rest in time_after d.0 d.1) else None

-- The seconds of these parts, if they make a duration.
unfoldable pub seconds_if : Parts → Option ℕ
seconds_if p = if is_duration p then Some (seconds_of p) else None

-- The seconds of the duration that the text writes: n exactly where `IsDuration text n`, which is a
-- clause of `read_duration`.
unfoldable pub duration_of : List ℕ → Option ℕ
duration_of text = option_and_then seconds_if (parts_in text)

-- ---- from a number of seconds to a text

-- A part of the printed text: absent where it is 0.
abbrev pub shown : ℕ → Option (List ℕ)
shown n = if n == 0 then None else Some (decimal n)

-- The days, the hours below 24, the minutes below 60 and the seconds below 60.
abbrev pub span_parts : ℕ → Parts
span_parts n = record { days = shown (n / 86400); hours = shown (n / 3600 % 24); minutes = shown (n / 60 % 60); seconds = shown (n % 60) }

-- The printed text of a span of n seconds.
unfoldable pub span_text : ℕ → List ℕ
span_text n = if n == 0 then codes "PT0S" else duration_text (span_parts n)
