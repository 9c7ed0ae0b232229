use Rattle.std.proofs.Common.{OnErr, OnOk, ap, map, subst, ◌∙◌}
use Rattle.ld_expr.specs.Seen.{member_cell}
use Rattle.ld_rules.specs.SiteLooks.{completion_looks_if, reaching_roles}
use Rattle.ld_rules.specs.SiteTests.{activity_completing}
use Rattle.ld_state.specs.RunState.{seen_in}
use Rattle.ld_state.specs.StateView.{run_of}
use Rattle.ld_settling.specs.Gathering.{FallsShort, Gathers}
use Rattle.ld_settling.proofs.Gathered.{gathers_both, short_first, short_then}
use Rattle.ld_settling.proofs.Reading.{on_err, on_ok, so_err}
use Rattle.ld_settling.proofs.reads.person_rules.read_activity.Goals as goal

pub returns-in_err-read_mine-clause-short : goal.returns-in_err-read_mine-clause-short
returns-in_err-read_mine-clause-short g c =
    let unit = c.args.reader.now.unit.now in
    let run = run_of c.args.reader.now.state.now in
    let activity = c.args.activity.now in
    so_err c.from_residual.result
    (short_first unit run (map (λ r. member_cell r c.args.person.0) (reaching_roles unit activity.identifier))
    (completion_looks_if unit (seen_in unit run) (activity_completing unit c.args.person.0 activity) activity.complete)
    c.args.list.now c.in_err-read_mine.ensures.short)

pub returns-clause-gathers : goal.returns-clause-gathers
returns-clause-gathers g c =
    let unit = c.args.reader.now.unit.now in
    let run = run_of c.args.reader.now.state.now in
    on_ok c.read_completion.result (gathers_both unit run c.in_ok-read_mine.ensures.gathers)
    (subst
    (λ about. OnOk c.read_completion.result (Gathers unit run
    (completion_looks_if unit (seen_in unit run) about c.args.activity.now.complete) c.read_mine.new.list c.read_completion.new.list))
    (c.completing_activity-about.ensures ∙ ap (λ one. activity_completing one c.args.person.0 c.args.activity.now) c.unit.ensures.unit)
    c.read_completion.ensures.gathers)

pub returns-clause-short : goal.returns-clause-short
returns-clause-short g c =
    let unit = c.args.reader.now.unit.now in
    let run = run_of c.args.reader.now.state.now in
    let activity = c.args.activity.now in
    on_err c.read_completion.result
    (short_then unit run (map (λ r. member_cell r c.args.person.0) (reaching_roles unit activity.identifier))
    (completion_looks_if unit (seen_in unit run) (activity_completing unit c.args.person.0 activity) activity.complete)
    c.args.list.now c.read_mine.new.list c.in_ok-read_mine.ensures.gathers)
    (subst
    (λ about. OnErr c.read_completion.result (FallsShort unit run
    (completion_looks_if unit (seen_in unit run) about activity.complete) c.read_mine.new.list))
    (c.completing_activity-about.ensures ∙ ap (λ one. activity_completing one c.args.person.0 activity) c.unit.ensures.unit)
    c.read_completion.ensures.short)
