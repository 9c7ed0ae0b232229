use Rattle.std.proofs.Common.{nat_eq, ap, ◌∙◌}
use Rattle.std.specs.List.{list_any}
use Rattle.ld_model.specs.Cells.{same_cell}
use Rattle.ld_rank.specs.Lookers.{is_at, rules_at}
use Rattle.ld_rank.proofs.Noted.{noted_is, one_looked}
use Rattle.ld_rank.proofs.lookers.Lookers.add_all.Goals as goal

pub loop-cell-preserved : goal.loop-cell-preserved
loop-cell-preserved c = λ q b.
    one_looked (nat_eq c.args.rule b) (same_cell q) c.args.cells.now c.loop-cell.cell-index _ (is_at c.loop-cell.self q b) _ _ c.loop-cell-test.true
    (ap (list_any (λ each. nat_eq each b)) (c.in_ok-add.ensures q) ∙ noted_is (λ each. nat_eq each b) (rules_at c.loop-cell.self q) c.args.rule _)
    (c.loop-cell.invariant q b)
