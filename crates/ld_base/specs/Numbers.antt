-- Numbers counted from 0.
use Rattle.std.specs.Prelude.{ℕ, List}
use Rattle.std.specs.List.{range_with_len}

-- The numbers below n, in order.
abbrev pub numbers_below : ℕ → List ℕ
numbers_below n = range_with_len 0 n
