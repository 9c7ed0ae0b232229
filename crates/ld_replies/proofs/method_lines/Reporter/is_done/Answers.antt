use Rattle.std.proofs.Common.{ℕ, arith}
use Rattle.ld_expr.specs.Done.{mark_for}
use Rattle.ld_expr.specs.Lookup.{completing_number}
use Rattle.ld_model.specs.declared.cell.Owner.TheVariants.{Run}
use Rattle.ld_admission.proofs.OneLook.{one_look}
use Rattle.ld_replies.proofs.method_lines.Reporter.is_done.Goals as goal

pub returns-clause-cost : goal.returns-clause-cost
returns-clause-cost g c =
    let unit = c.args.self.now.scope.unit.now in
    omega (arith, c.is_done.ensures.cost, one_look (λ (number : ℕ). mark_for unit Run number) (completing_number unit c.args.id.now))
