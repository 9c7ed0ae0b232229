use Rattle.std.proofs.Common.{◌∙◌, ap}
use Rattle.ld_expr.specs.Seen.{Seen}
use Rattle.ld_rules.specs.SiteTests.{site_test}
use Rattle.ld_rules.specs.SiteView.{site_of}
use Rattle.ld_state.proofs.SeenSame.{seen_same}
use Rattle.ld_world_tests.proofs.sites.fires.Goals as goal

pub fire-fired-requires-clause-verdict : goal.fire-fired-requires-clause-verdict
fire-fired-requires-clause-verdict g c =
    c.judge-verdict.ensures.value
    ∙ ap (λ (seen : Seen). site_test c.args.unit.now seen (site_of c.in-Some.site))
    (seen_same c.args.unit.now c.args.state.now c.requires.own)
