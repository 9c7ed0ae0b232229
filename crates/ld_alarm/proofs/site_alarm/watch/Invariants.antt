use Rattle.std.proofs.Common.{length}
use Rattle.ld_rules.specs.SiteLooks.{open_looks}
use Rattle.ld_rules.specs.SiteView.{site_of}
use Rattle.ld_alarm.specs.Later.{count_after}
use Rattle.ld_alarm.specs.Switches.{site_switches}
use Rattle.ld_alarm.proofs.Bound.{IsWithin}
use Rattle.ld_alarm.proofs.Watching.{IsWatched}
use Rattle.ld_alarm.proofs.site_alarm.watch.Given as goal

abbrev pub invariant-switches : goal.invariant-switches
invariant-switches g l =
    let seen = g.V.View.seen l.view in
    let site = site_of l.site in
    let switches = site_switches l.unit seen site in
    IsWatched l.unit seen site l.fn.now.0 l.moment.0
    × IsWithin l.steps l.fn.steps (length (open_looks l.unit seen site)) (length switches) (count_after l.moment.0 switches)

abbrev pub decreases-switches : goal.decreases-switches
decreases-switches g l = count_after l.moment.0 (site_switches l.unit (g.V.View.seen l.view) (site_of l.site))
