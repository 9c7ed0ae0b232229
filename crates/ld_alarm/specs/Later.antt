-- The first of some moments that comes after another one.
use Rattle.std.specs.Prelude.{ℕ, ℤ, pos, ◌+ℤ◌, ◌≤ℤ◌, List, [], ◌∷◌, filter, length, Option, Some, None, Bool, ◌&&◌, int_lt, int_le, if◌then◌else◌}

-- The latest moment that there is: 9999-12-31T23:59:59Z.
abbrev pub latest_moment : ℤ
latest_moment = pos 253402300799

-- The moment comes before this one, if there is one.
abbrev pub IsBefore : ℤ → Option ℤ → Type 0
IsBefore z None = Unit {0}
IsBefore z (Some moment) = (z +ℤ pos 1) ≤ℤ moment

-- The earlier of two moments that there may be.
abbrev pub earlier : Option ℤ → Option ℤ → Option ℤ
earlier None b = b
earlier (Some x) None = Some x
earlier (Some x) (Some y) = if int_lt y x then Some y else Some x

-- The earliest of the moments that these give.
abbrev pub earliest_of : {A : Type 0} → (A → Option ℤ) → List A → Option ℤ
earliest_of gives [] = None
earliest_of gives (x ∷ xs) = earlier (gives x) (earliest_of gives xs)

-- It comes after the first moment, and not after the latest that there is.
abbrev pub comes_after : ℤ → ℤ → Bool
comes_after moment x = int_lt moment x && int_le x latest_moment

-- The first of the list that comes after the moment.
abbrev pub next_after : ℤ → List ℤ → Option ℤ
next_after moment [] = None
next_after moment (x ∷ xs) = earlier (if comes_after moment x then Some x else None) (next_after moment xs)

-- How many of the list come after the moment.
abbrev pub count_after : ℤ → List ℤ → ℕ
count_after moment xs = length (filter (comes_after moment) xs)
