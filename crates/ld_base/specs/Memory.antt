-- What contracts see of a source and a sink in memory.
use Rattle.std.specs.Prelude.{ℕ, List}
use Rattle.ld_base.specs.Calls.{CallState}

-- The bytes that are left, and the most that one call gives.
pub record SourceState : Type 0 where
  pub left : List ℕ
  pub piece : ℕ
  pub calls : CallState

-- The bytes that were written, and how many more have room.
pub record SinkState : Type 0 where
  pub written : List ℕ
  pub room : ℕ
  pub calls : CallState
