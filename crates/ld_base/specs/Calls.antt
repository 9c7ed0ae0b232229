-- Calls on an object of the outside that is kept in memory: which of them fail.
use Rattle.std.specs.Prelude.{ℕ, List, Bool, if◌then◌else◌, ◌==◌, ◌+◌, ◌-◌, ◌^◌, min}
use Rattle.std.specs.List.{list_any}

-- The numbers of the calls that are to fail, counted from 1; how many calls were made; how many failed.
pub record CallState : Type 0 where
  pub failing : List ℕ
  pub made : ℕ
  pub faults : ℕ

-- One more, up to the last value of a count.
abbrev pub one_more : ℕ → ℕ
one_more count = min (count + 1) (2 ^ 64 - 1)

-- Whether the next call is one of those that are to fail.
abbrev pub next_is_listed : CallState → Bool
next_is_listed calls = list_any (λ number. number == calls.made + 1) calls.failing

-- After one more call, which failed or not.
abbrev pub after_call : Bool → CallState → CallState
after_call failed calls = record calls { made = one_more calls.made; faults = if failed then one_more calls.faults else calls.faults }
