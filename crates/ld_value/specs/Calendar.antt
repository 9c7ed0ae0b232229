-- Moments and the texts that name them: `2024-02-29T23:59:59Z`. (docs/FORMATS.md, "Values")
use Rattle.std.specs.Prelude.{zero, suc, ◌++◌, ◌/◌, ◌%◌, neg_ℤ, ◌-ℤ◌, int_le, unsigned_abs, ℕ, List, [], ◌∷◌, take, drop, Bool, true, false, ◌&&◌, ◌==◌, nat_le, if◌then◌else◌, ℤ, pos, ◌+ℤ◌, ◌*ℤ◌, ◌+◌, ◌*◌, Option, Some, None, codes}
use Rattle.std.specs.Char.{is_ascii_digit}
use Rattle.std.specs.Str.Parse.{digits_value}
use Rattle.std.specs.Int.{is_in_range, int_div_euclid, int_rem_euclid}
use Rattle.jiff_core.specs.Calendar.{days_in_month, days_from_civil, IsBetween}

-- In a pattern a `0` stands for any digit, and any other byte for itself.
abbrev pub stands_for : ℕ → ℕ → Bool
stands_for p b = if p == 48 then is_ascii_digit b else b == p

-- The text follows the pattern byte by byte.
abbrev pub follows : List ℕ → List ℕ → Bool
follows [] [] = true
follows [] (b ∷ bs) = false
follows (p ∷ ps) [] = false
follows (p ∷ ps) (b ∷ bs) = stands_for p b && follows ps bs

-- The pattern that each moment's text follows.
abbrev pub moment_pattern : List ℕ
moment_pattern = codes "0000-00-00T00:00:00Z"

-- The text has the form of a moment.
unfoldable pub has_moment_form : List ℕ → Bool
has_moment_form text = follows moment_pattern text

-- The number that the text writes in `count` digits from the place `from` on, places counted from 0.
abbrev pub part : ℕ → ℕ → List ℕ → ℕ
part from count text = digits_value 10 (take count (drop from text))

-- The calendar has this day, in a year from 1 to 9999.
abbrev pub is_date : ℕ → ℕ → ℕ → Bool
is_date year month day = is_in_range 1 9999 year && (is_in_range 1 12 month && is_in_range 1 (days_in_month (pos year) month) day)

-- The day number of a date, counted from 1970-01-01; none where there is no such day.
unfoldable pub day_of : ℕ → ℕ → ℕ → Option ℤ
day_of year month day = if is_date year month day then Some (days_from_civil (pos year) month day) else None

-- The second of the day, counted from midnight; none where there is no such time of day.
unfoldable pub second_of : ℕ → ℕ → ℕ → Option ℕ
second_of hour minute second = if nat_le hour 23 && (nat_le minute 59 && nat_le second 59) then Some (3600 * hour + 60 * minute + second) else None

-- The moment of a day number and a second of that day, where there are both.
abbrev pub moment_at : Option ℤ → Option ℕ → Option ℤ
moment_at None second = None
moment_at (Some day) None = None
moment_at (Some day) (Some second) = Some (pos 86400 *ℤ day +ℤ pos second)

-- The day that the text names in its first ten bytes.
unfoldable pub named_day : List ℕ → Option ℤ
named_day text = day_of (part 0 4 text) (part 5 2 text) (part 8 2 text)

-- The second of the day that the text names in its bytes from the twelfth on.
unfoldable pub named_second : List ℕ → Option ℕ
named_second text = second_of (part 11 2 text) (part 14 2 text) (part 17 2 text)

-- The moment that the text names by `YYYY-MM-DDTHH:MM:SSZ`.
unfoldable pub moment_of : List ℕ → Option ℤ
moment_of text = if has_moment_form text then moment_at (named_day text) (named_second text) else None

-- The moment lies in the years 1 to 9999: from 0001-01-01T00:00:00Z to 9999-12-31T23:59:59Z.
abbrev pub IsMoment : ℤ → Type 0
IsMoment z = IsBetween (neg_ℤ (pos 62135596800)) (pos 253402300799) z

-- The same as a test.
abbrev pub is_moment : ℤ → Bool
is_moment z = int_le (neg_ℤ (pos 62135596800)) z && int_le z (pos 253402300799)

-- The day number is of a day in those years.
abbrev pub IsDay : ℤ → Type 0
IsDay day = IsBetween (neg_ℤ (pos 719162)) (pos 2932896) day

-- The last of the numbers from 1 to n that passes the test, and 0 where none does.
abbrev pub last_passing : ℕ → (ℕ → Bool) → ℕ
last_passing zero passes = 0
last_passing (suc n) passes = if passes (suc n) then suc n else last_passing n passes

-- The year of a day number: the last one, up to 9999, that begins on the day or before it.
unfoldable pub year_of : ℤ → ℕ
year_of day = last_passing 9999 (λ year. int_le (days_from_civil (pos year) 1 1) day)

-- Its month: the last one of that year that begins on the day or before it.
unfoldable pub month_of : ℤ → ℕ
month_of day = last_passing 12 (λ month. int_le (days_from_civil (pos (year_of day)) month 1) day)

-- Its place in that month, from 1 on.
unfoldable pub day_of_month : ℤ → ℕ
day_of_month day = unsigned_abs (day -ℤ days_from_civil (pos (year_of day)) (month_of day) 1) + 1

-- The number in exactly `count` digits.
abbrev pub in_digits : ℕ → ℕ → List ℕ
in_digits zero n = []
in_digits (suc count) n = in_digits count (n / 10) ++ (48 + n % 10) ∷ []

-- `YYYY-MM-DDTHH:MM:SSZ` of a year, a month, a day, an hour, a minute and a second.
abbrev pub moment_text : ℕ → ℕ → ℕ → ℕ → ℕ → ℕ → List ℕ
moment_text year month day hour minute second =
    in_digits 4 year ++ codes "-" ++ in_digits 2 month ++ codes "-" ++ in_digits 2 day ++ codes "T" ++ in_digits 2 hour ++ codes ":" ++ in_digits 2 minute ++ codes ":" ++ in_digits 2 second ++ codes "Z"

-- The same of a day number and a second of that day.
unfoldable pub day_and_second_text : ℤ → ℕ → List ℕ
day_and_second_text day second =
    moment_text (year_of day) (month_of day) (day_of_month day) (second / 3600) (second / 60 % 60) (second % 60)

-- The text of a moment: of the day that it falls on, and of the second of that day.
unfoldable pub text_of_moment : ℤ → List ℕ
text_of_moment z = day_and_second_text (int_div_euclid z (pos 86400)) (unsigned_abs (int_rem_euclid z (pos 86400)))
