use Rattle.std.proofs.Common.{◌≡◌, ◌&&◌, ℕ, nat_lt, true}
use Rattle.ld_model.specs.declared.cell.CellName.{CellName}
use Rattle.ld_rank.specs.Alone.{is_fed}
use Rattle.ld_rank.specs.Lookers.{is_at, rule_looks_at}
use Rattle.ld_rank.proofs.lookers.lookers_of.Given as goal

abbrev pub invariant-loop-number : goal.invariant-loop-number
invariant-loop-number l =
    (cell : CellName) (rule : ℕ) → is_fed cell ≡ true → is_at l.lookers cell rule ≡ (nat_lt rule l.number && rule_looks_at l.unit rule cell)
