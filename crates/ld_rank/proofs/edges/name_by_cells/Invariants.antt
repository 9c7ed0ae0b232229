use Rattle.std.proofs.Common.{◌≡◌, ◌||◌, ◌<◌, ℕ, drop, length}
use Rattle.std.specs.List.{list_any}
use Rattle.ld_rank.specs.Lookers.{is_at}
use Rattle.ld_rank.specs.Rules.{is_named}
use Rattle.ld_rank.proofs.edges.name_by_cells.Given as goal

abbrev pub invariant-loop-cell : goal.invariant-loop-cell
invariant-loop-cell l = record {
  each : length l.fed ≡ length l.fn.fed;
  value : (b : ℕ) → b < length l.fn.fed → (is_named l.fed b || list_any (λ cell. is_at l.lookers cell b) (drop l.cell-index l.cells)) ≡ (is_named l.fn.fed b || list_any (λ cell. is_at l.lookers cell b) l.cells);
}
