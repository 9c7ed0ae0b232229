use Rattle.std.specs.Prelude.{◌≡◌, ℕ, ◌*◌, ◌/◌, ◌%◌, ◌^◌, ◌<◌, ◌≤◌, Bool, true, false, List, [], ◌∷◌, length, get_or, eqb, map}
use Rattle.std.specs.Int.{bit_at}
use Rattle.std.specs.List.{range_with_len}

-- the bit of this number in a row of words of 64 bits each
unfoldable pub bit : List ℕ → ℕ → Bool
bit words n = eqb (bit_at (get_or words (n / 64) 0) (n % 64)) 1

-- a bit of the upper row is set exactly where the word of the lower row with its number is not zero
pub record Marks (lower upper : List ℕ) : Type 0 where
  pub covers : length lower ≤ 64 * length upper
  pub marked : (n : ℕ) → bit lower n ≡ true → bit upper (n / 64) ≡ true
  pub full : (w : ℕ) → bit upper w ≡ true → (n : ℕ) × (n / 64 ≡ w) × (bit lower n ≡ true)

-- the first of the levels, or no word where there is none
abbrev pub lowest : List (List ℕ) → List ℕ
lowest levels = get_or levels 0 []

-- each level that has words marks those of the one before it
abbrev pub AreLevels : List (List ℕ) → Type 0
AreLevels [] = Unit {0}
AreLevels (lower ∷ above) =
    (length lower ≤ 2 ^ 32) × (0 < length (lowest above) → Marks lower (lowest above)) × AreLevels above

-- the first `count` bits of a row
abbrev pub bits_of : List ℕ → ℕ → List Bool
bits_of words count = map (bit words) (range_with_len 0 count)

-- levels whose lowest bits are a table of this many numbers: there is room for these, and no bit is set beyond
pub record IsTable (levels : List (List ℕ)) (range : ℕ) : Type 0 where
  pub levels_there : 0 < length levels
  pub are_levels : AreLevels levels
  pub fits : range < 2 ^ 32
  pub covers : range ≤ 64 * length (lowest levels)
  pub none_beyond : (n : ℕ) → range ≤ n → bit (lowest levels) n ≡ false
