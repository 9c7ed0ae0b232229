-- Durations in documents.
use Rattle.std.specs.Prelude.{◌≡◌, ℕ, List, Option, Some, None, Bool, true, false, ◌&&◌, ◌||◌, is_some, nat_le, if◌then◌else◌}
use Rattle.std.specs.Option.{option_and_then}
use Rattle.std.proofs.Common.{refl}
use Rattle.serde_json.specs.Data.{Data}
use Rattle.serde_json.specs.Find.{as_str}
use Rattle.ld_base.specs.Maybe.{◌>>=◌}
use Rattle.ld_shape.specs.Keeping.{Keeps}
use Rattle.ld_shape.specs.Shapes.{Shape, leaf}
use Rattle.ld_value.proofs.Choices.{and_right}
use Rattle.ld_value.specs.Duration.{Parts, is_duration, has_time, has_numerals, parts_in, seconds_of, seconds_if, duration_of}

-- At most 999,999,999,999 seconds.
abbrev pub is_in_range : ℕ → Bool
is_in_range seconds = nat_le seconds 999999999999

-- The seconds of a text that is a duration.
unfoldable pub span_of : Data → Option ℕ
span_of tree = as_str tree >>= duration_of

some_in_range : (parts : Parts) (test : Bool) → is_duration parts ≡ test
    → Keeps is_in_range (if test then Some (seconds_of parts) else None)
unfolding is_duration
some_in_range parts true is =
    and_right (has_numerals parts) (nat_le (seconds_of parts) 999999999999)
    (and_right (is_some parts.days || has_time parts)
    (has_numerals parts && nat_le (seconds_of parts) 999999999999) is)
some_in_range parts false is = tt

parts_in_range : (parts : Option Parts) → Keeps is_in_range (option_and_then seconds_if parts)
unfolding seconds_if
parts_in_range None = tt
parts_in_range (Some parts) = some_in_range parts (is_duration parts) refl

-- The seconds of a text that is a duration are at most 999,999,999,999.
pub text_in_range : (text : Option (List ℕ)) → Keeps is_in_range (text >>= duration_of)
unfolding duration_of
text_in_range None = tt
text_in_range (Some text) = parts_in_range (parts_in text)

-- The seconds that are read from a tree are at most that many.
pub span_formed : (tree : Data) → Keeps is_in_range (span_of tree)
unfolding span_of
span_formed tree = text_in_range (as_str tree)

-- The seconds of a duration.
abbrev pub seconds : Shape ℕ
seconds = leaf span_of is_in_range span_formed
