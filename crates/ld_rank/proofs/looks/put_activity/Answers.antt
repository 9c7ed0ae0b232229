use Rattle.std.proofs.Common.{ap, ◌∙◌}
use Rattle.ld_rules.specs.SiteTests.{activity_completing}
use Rattle.ld_rank.proofs.Asking.{activity_told}
use Rattle.ld_rank.proofs.looks.put_activity.Goals as goal

pub returns : goal.returns
returns g c =
    let activity = c.args.activity.now in
    let about = c.completing_activity-about.ensures ∙ ap (λ unit. activity_completing unit 0 activity) c.unit.ensures.unit in
    rw (activity_told g.S.CellSink.after _ c.args.unit.now activity) (rw about at c.put_completion.ensures)
