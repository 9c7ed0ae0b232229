-- Texts as the values that they are read as, and how these are printed.
use Rattle.std.specs.Prelude.{◌≡◌, refl, ℕ, List, Option, Some, None, codes}
use Rattle.std.specs.Fmt.{digits}
use Rattle.std.specs.Option.{option_map}
use Rattle.jiff_core.specs.Calendar.{days_from_civil, day_count, days_of_years, days_of_months}
use Rattle.ld_value.specs.Calendar.{moment_of, has_moment_form, named_day, named_second, day_of, second_of}
use Rattle.ld_value.specs.Duration.{duration_of, time_in, front_part, seconds_if, is_duration, seconds_of, span_text}
use Rattle.ld_value.specs.Numeral.{numeral}
use Rattle.ld_value.specs.Values.{value_of, text_of, integer_of, signed_numeral}
use Rattle.ld_value.specs.declared.kind.Kind.{Kind}
use Rattle.ld_value.specs.declared.kind.Kind.TheVariants.{Integer, Datetime, Duration}

-- How the value of the text is printed, if it has one.
abbrev printed : Kind → List ℕ → Option (List ℕ)
printed kind text = option_map text_of (value_of kind text)

-- Leading zeros are read, and not printed.
pub leading_zeros_go : printed Integer (codes "007") ≡ Some (codes "7")
unfolding value_of text_of integer_of signed_numeral numeral digits
leading_zeros_go = refl

-- The least integer of 64 bits is read and printed.
pub least_integer : printed Integer (codes "-9223372036854775808") ≡ Some (codes "-9223372036854775808")
unfolding value_of text_of integer_of signed_numeral numeral digits
least_integer = refl

-- One more than the greatest integer of 64 bits is no value.
pub too_great : value_of Integer (codes "9223372036854775808") ≡ None
unfolding value_of integer_of signed_numeral numeral
too_great = refl

-- The empty text is no integer.
pub no_digits : value_of Integer (codes "") ≡ None
unfolding value_of integer_of signed_numeral numeral
no_digits = refl

-- An integer has no plus sign.
pub plus_sign : value_of Integer (codes "+1") ≡ None
unfolding value_of integer_of signed_numeral numeral
plus_sign = refl

-- Ninety minutes are printed as an hour and thirty minutes.
pub ninety_minutes : printed Duration (codes "PT90M") ≡ Some (codes "PT1H30M")
unfolding value_of text_of duration_of time_in front_part seconds_if is_duration seconds_of span_text numeral digits
ninety_minutes = refl

-- A duration of no days is printed as one of no seconds.
pub no_days : printed Duration (codes "P0D") ≡ Some (codes "PT0S")
unfolding value_of text_of duration_of time_in front_part seconds_if is_duration seconds_of span_text numeral digits
no_days = refl

-- The greatest duration, read in seconds, is printed in days, hours, minutes and seconds.
pub greatest_duration : printed Duration (codes "PT999999999999S") ≡ Some (codes "P11574074DT1H46M39S")
unfolding value_of text_of duration_of time_in front_part seconds_if is_duration seconds_of span_text numeral digits
greatest_duration = refl

-- A duration has at least one part.
pub no_parts : value_of Duration (codes "P") ≡ None
unfolding value_of duration_of time_in front_part seconds_if is_duration seconds_of numeral
no_parts = refl

-- Behind the `T` of a duration stands at least one part.
pub nothing_behind_the_days : value_of Duration (codes "P1DT") ≡ None
unfolding value_of duration_of time_in front_part seconds_if is_duration seconds_of numeral
nothing_behind_the_days = refl

-- One second more than the greatest duration is no value.
pub too_long : value_of Duration (codes "P11574074DT1H46M40S") ≡ None
unfolding value_of duration_of time_in front_part seconds_if is_duration seconds_of numeral
too_long = refl

-- The year 2023 has no 29th of February.
pub no_leap_year : value_of Datetime (codes "2023-02-29T00:00:00Z") ≡ None
unfolding value_of moment_of has_moment_form named_day named_second day_of second_of days_from_civil day_count days_of_years days_of_months
no_leap_year = refl
