-- Runs that differ in their seats alone.
use Rattle.std.specs.Prelude.{◌≡◌, ℕ}
use Rattle.ld_model.specs.declared.cell.CellName.{CellName}
use Rattle.ld_firing.specs.RunSettling.{Settlement}
use Rattle.ld_state.specs.RunState.{RunState}

-- The same run with this many seats.
abbrev pub reseated : ℕ → RunState → RunState
reseated seats s = record s { seats = seats }

-- The same settlement, whose state has this many seats.
abbrev pub settlement_reseated : ℕ → Settlement → Settlement
settlement_reseated seats x = record x { state = reseated seats x.state }

-- Two runs agree on all but their seats.
pub record IsSameButSeats (s t : RunState) : Type 0 where
  pub persons : s.persons ≡ t.persons
  pub outbox : s.outbox ≡ t.outbox
  pub cells : (name : CellName) → s.cells name ≡ t.cells name
