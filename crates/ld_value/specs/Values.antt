-- The values of the seven datatypes: which texts have one, how it is printed, and which restrictions it
-- fits. (docs/FORMATS.md, "Values")
use Rattle.std.specs.Prelude.{ℕ, ◌^◌, ◌-◌, List, length, drop, map, Bool, true, false, not, ◌&&◌, ◌||◌, ◌==◌, nat_le, if◌then◌else◌, ℤ, pos, neg_ℤ, int_le, Option, Some, None, codes, chars}
use Rattle.std.specs.Option.{option_map, option_and_then}
use Rattle.std.specs.Int.{is_in_range}
use Rattle.std.specs.List.{list_all, list_any}
use Rattle.std.specs.Str.{bytes_eq}
use Rattle.std.specs.Str.Parse.{starts_with_minus}
use Rattle.std.specs.Fmt.{signed_decimal}
use Rattle.ld_value.specs.declared.kind.Kind.{Kind}
use Rattle.ld_value.specs.declared.kind.Kind.TheVariants.{String, Text, Uri, Boolean, Integer, Datetime, Duration}
use Rattle.ld_value.specs.declared.limits.Limits.{Limits}
use Rattle.ld_value.specs.Calendar.{moment_of, text_of_moment, is_moment, IsMoment}
use Rattle.ld_value.specs.Datum.{Datum, text_datum, truth_datum, number_datum, moment_datum, span_datum, datum_of, same_datum}
use Rattle.ld_value.specs.Duration.{duration_of, span_text}
use Rattle.ld_value.specs.Numeral.{numeral}

-- ---- from a text to a value

-- A text of at most 4,096 bytes.
abbrev pub is_text : List ℕ → Bool
is_text text = nat_le (length text) 4096

-- A uri: 1 to 4,096 bytes from 0x21 to 0x7E.
abbrev pub is_uri : List ℕ → Bool
is_uri text = not (length text == 0) && (nat_le (length text) 4096 && list_all (is_in_range 0x21 0x7E) text)

-- The whole number is one of 64 bits, from -2^63 to 2^63 - 1.
abbrev pub is_whole : ℤ → Bool
is_whole z = int_le (neg_ℤ (pos (2 ^ 63))) z && int_le z (pos (2 ^ 63 - 1))

-- The span is one of at most 999,999,999,999 seconds.
abbrev pub is_span : ℕ → Bool
is_span n = nat_le n 999999999999

-- The text as a value, if it is one.
abbrev pub text_if : Bool → List ℕ → Option Datum
text_if good text = if good then Some (text_datum text) else None

-- `true` and `false`.
unfoldable pub truth_of : List ℕ → Option Bool
truth_of text = if bytes_eq text (codes "true") then Some true else if bytes_eq text (codes "false") then Some false else None

-- An optional `-`, then 1 to 19 digits.
unfoldable pub signed_numeral : List ℕ → Option ℤ
signed_numeral text =
    if starts_with_minus text then option_map (λ n. neg_ℤ (pos n)) (numeral 19 (drop 1 text))
    else option_map (λ n. pos n) (numeral 19 text)

-- Such a text with a value in 64 bits.
unfoldable pub integer_of : List ℕ → Option ℤ
integer_of text = option_and_then (λ z. if is_whole z then Some z else None) (signed_numeral text)

-- The value that the text has as one of the datatype.
unfoldable pub value_of : Kind → List ℕ → Option Datum
value_of String text = text_if (is_text text) text
value_of Text text = text_if (is_text text) text
value_of Uri text = text_if (is_uri text) text
value_of Boolean text = option_map truth_datum (truth_of text)
value_of Integer text = option_map number_datum (integer_of text)
value_of Datetime text = option_map moment_datum (moment_of text)
value_of Duration text = option_map span_datum (duration_of text)

-- The values of the datatype take no memory.
abbrev pub is_scalar : Kind → Bool
is_scalar String = false
is_scalar Text = false
is_scalar Uri = false
is_scalar Boolean = true
is_scalar Integer = true
is_scalar Datetime = true
is_scalar Duration = true

-- ---- from a value to its text

-- How the value is printed.
unfoldable pub text_of : Datum → List ℕ
text_of (text_datum text) = text
text_of (truth_datum true) = codes "true"
text_of (truth_datum false) = codes "false"
text_of (number_datum z) = signed_decimal z
text_of (moment_datum z) = text_of_moment z
text_of (span_datum n) = span_text n

-- The value has a text: a moment lies in the years 1 to 9999.
abbrev pub HasText : Datum → Type 0
HasText (text_datum text) = Unit {0}
HasText (truth_datum b) = Unit {0}
HasText (number_datum z) = Unit {0}
HasText (moment_datum z) = IsMoment z
HasText (span_datum n) = Unit {0}

-- ---- restrictions

-- The value is one of the datatype: one that some text has.
abbrev pub is_value : Kind → Datum → Bool
is_value String (text_datum text) = is_text text
is_value Text (text_datum text) = is_text text
is_value Uri (text_datum text) = is_uri text
is_value Boolean (truth_datum b) = true
is_value Integer (number_datum z) = is_whole z
is_value Datetime (moment_datum z) = is_moment z
is_value Duration (span_datum n) = is_span n
is_value _ _ = false

-- The restrictions of a property, as what their values mean.
pub record Restrictions : Type 0 where
  pub least : Option Datum
  pub most : Option Datum
  pub min_length : Option ℕ
  pub max_length : Option ℕ
  pub one_of : List Datum

-- What the program's restrictions mean.
abbrev pub restrictions_of : Limits → Restrictions
restrictions_of l = record {
  least = option_map datum_of l.least;
  most = option_map datum_of l.most;
  min_length = l.min_length;
  max_length = l.max_length;
  one_of = map datum_of l.one_of;
}

-- The first is at most the second, of two whole numbers, two moments or two spans. Texts and truth
-- values have no order, and values of two sorts have none.
abbrev pub is_at_most : Datum → Datum → Bool
is_at_most (number_datum a) (number_datum b) = int_le a b
is_at_most (moment_datum a) (moment_datum b) = int_le a b
is_at_most (span_datum a) (span_datum b) = nat_le a b
is_at_most _ _ = false

-- The value is at least the least one, where there is one.
abbrev pub meets_least : Option Datum → Datum → Bool
meets_least None d = true
meets_least (Some least) d = is_at_most least d

-- It is at most the greatest one, where there is one.
abbrev pub meets_most : Option Datum → Datum → Bool
meets_most None d = true
meets_most (Some most) d = is_at_most d most

-- A text has the least number of characters, which are Unicode scalar values, where there is one. A
-- length restricts texts alone.
abbrev pub meets_min_length : Option ℕ → Datum → Bool
meets_min_length (Some least) (text_datum text) = nat_le least (length (chars text))
meets_min_length _ _ = true

-- It has no more than the greatest number of characters, where there is one.
abbrev pub meets_max_length : Option ℕ → Datum → Bool
meets_max_length (Some most) (text_datum text) = nat_le (length (chars text)) most
meets_max_length _ _ = true

-- The value is one of the list, or the list is empty and so restricts nothing.
abbrev pub meets_one_of : List Datum → Datum → Bool
meets_one_of list d = (length list == 0) || list_any (same_datum d) list

-- The value is one of the datatype and meets each of the restrictions.
unfoldable pub fits_in : Kind → Restrictions → Datum → Bool
fits_in kind r d =
    is_value kind d && (meets_least r.least d && (meets_most r.most d && (meets_min_length r.min_length d && (meets_max_length r.max_length d && meets_one_of r.one_of d))))
