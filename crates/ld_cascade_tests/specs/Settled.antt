use Rattle.std.specs.Prelude.{ℕ}
use Rattle.ld_cascade.specs.Tidy.{Covers, IsTidy}
use Rattle.ld_cascade.specs.Wiring.{IsEmpty, Wiring}
use Rattle.ld_cascade_tests.specs.Lamps.{lamps}
use Rattle.ld_cascade_tests.specs.Row.{Row}

-- the links are those of a row that is settled: no site is dirty
pub record AreSettled (s : Row) (wiring : Wiring) : Type 0 where
  pub tidy : (i : ℕ) → IsTidy lamps s wiring.edges i
  pub none : IsEmpty wiring.dirty
  pub covers : Covers lamps s wiring
