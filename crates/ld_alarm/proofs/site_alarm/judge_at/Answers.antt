use Rattle.std.proofs.Common.{ap, arith, length}
use Rattle.ld_rules.specs.SiteView.{site_of}
use Rattle.ld_alarm.proofs.SameLooks.{open_looks_at}
use Rattle.ld_alarm.proofs.site_alarm.judge_at.Goals as goal

pub returns-clause-cost : goal.returns-clause-cost
returns-clause-cost g c =
    let seen = g.V.View.seen c.args.view.now in
    omega (arith, c.judge.ensures.cost, ap length (open_looks_at c.args.unit.now seen c.args.moment.0 (site_of c.args.site)))
