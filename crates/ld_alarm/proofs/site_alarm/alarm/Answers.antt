use Rattle.std.proofs.Common.{sym, ◌∙◌}
use Rattle.ld_rules.specs.SiteView.{site_of}
use Rattle.ld_alarm.proofs.Watched.{latched_never}
use Rattle.ld_alarm.proofs.site_alarm.alarm.Goals as goal

pub returns-then-is_latched-clause-value : goal.returns-then-is_latched-clause-value
returns-then-is_latched-clause-value g c =
    latched_never c.args.unit.now (g.V.View.seen c.args.view.now) (site_of c.args.site)
    (sym c.is_latched.ensures.value ∙ c.if-is_latched.true)
