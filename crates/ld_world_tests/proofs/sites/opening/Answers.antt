use Rattle.std.proofs.Common.{◌∙◌, length, sym}
use Rattle.ld_firing.proofs.SitesNumbered.{run_site_there}
use Rattle.ld_settling.proofs.SitesFound.{rule_there}
use Rattle.ld_world_tests.proofs.sites.opening.Goals as goal

pub returns-in-Run : goal.returns-in-Run
returns-in-Run c =
    let at = rule_there c.args.unit.now c.rules.result.now 1 c.in-Some.rule.now c.rules.ensures.rules c.in-Some.ensures.lookup.3.0 c.in-Some.ensures.lookup.1 in
    record { there = run_site_there c.args.unit.now (length c.args.state.now.rows) 1 c.in-Some.rule.now at (sym c.in-Run.is ∙ c.kind.ensures) }
