use Rattle.std.proofs.Common.{◌||◌, nat_eq, true, ap, ◌∙◌, arith}
use Rattle.std.specs.List.{list_any}
use Rattle.ld_rank.specs.Lookers.{is_at}
use Rattle.ld_rank.specs.Rules.{is_named}
use Rattle.ld_rank.proofs.Noted.{one_looked}
use Rattle.ld_rank.proofs.edges.name_by_cells.Goals as goal

pub loop-cell-preserved : goal.loop-cell-preserved
loop-cell-preserved c = record {
  each = c.name_all.ensures.each ∙ c.loop-cell.invariant.each;
  value = λ b below.
      one_looked true (λ cell. is_at c.args.lookers.now cell b) c.args.cells.now c.loop-cell.cell-index _ (is_named c.loop-cell.fed b) _ _ c.loop-cell-test.true
      (c.name_all.ensures.value b (omega (arith, below, c.loop-cell.invariant.each))
      ∙ ap (λ rules. is_named c.loop-cell.fed b || list_any (λ rule. nat_eq rule b) rules) c.at.ensures)
      (c.loop-cell.invariant.value b below);
}
