use Rattle.std.proofs.Common.{ap, subst, ◌∙◌, ◌+◌, ◌≤◌, length, None}
use Rattle.std.specs.Option.{option_map_or}
use Rattle.ld_expr.specs.Seen.{Seen}
use Rattle.ld_state.specs.RunState.{seen_in}
use Rattle.ld_state.specs.StateView.{run_of}
use Rattle.ld_state.proofs.SeenSame.{seen_same}
use Rattle.ld_rules.specs.SiteLooks.{open_looks}
use Rattle.ld_rules.specs.SiteView.{site_of}
use Rattle.ld_alarm.specs.Alarm.{alarm_steps, site_alarm}
use Rattle.ld_next.proofs.run_alarm.alarm_of_number.Goals as goal

pub returns-in-Some-clause-value : goal.returns-in-Some-clause-value
returns-in-Some-clause-value g c =
    let unit = c.args.unit.now in
    let s = run_of c.args.state.now in
    c.alarm.ensures.value
    ∙ ap (λ (seen : Seen). site_alarm unit seen (site_of c.in-Some.site)) (seen_same unit c.args.state.now c.requires.own)
    ∙ ap (λ found. option_map_or (site_alarm unit (seen_in unit s)) found None) c.in-Some.ensures.site

pub returns-in-Some-clause-cost : goal.returns-in-Some-clause-cost
returns-in-Some-clause-cost g c =
    let unit = c.args.unit.now in
    let s = run_of c.args.state.now in
    let size = ap (λ (seen : Seen). length (open_looks unit seen (site_of c.in-Some.site))) (seen_same unit c.args.state.now c.requires.own)
    ∙ ap (λ found. option_map_or (λ site. length (open_looks unit (seen_in unit s) site)) found 0) c.in-Some.ensures.site in
    subst (λ n. c.alarm.new.steps ≤ c.args.steps.now + alarm_steps n) size c.alarm.ensures.cost
