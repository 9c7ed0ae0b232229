-- Numbers in decimal digits.
use Rattle.std.specs.Prelude.{ℕ, List, length, Bool, not, ◌&&◌, ◌==◌, nat_le, if◌then◌else◌, Option, Some, None}
use Rattle.std.specs.Str.{all_ascii_digits}
use Rattle.std.specs.Str.Parse.{digits_value}

-- The text is 1 to `most` decimal digits.
abbrev pub is_numeral : ℕ → List ℕ → Bool
is_numeral most text = all_ascii_digits text && (not (length text == 0) && nat_le (length text) most)

-- The number that 1 to `most` decimal digits write.
unfoldable pub numeral : ℕ → List ℕ → Option ℕ
numeral most text = if is_numeral most text then Some (digits_value 10 text) else None
