use Rattle.std.proofs.Common.{[], ap, arith, length, sym, ◌∙◌}
use Rattle.ld_rules.specs.SiteView.{site_of}
use Rattle.ld_state.specs.RunState.{seen_in}
use Rattle.ld_state.specs.StateView.{run_of}
use Rattle.ld_firing.proofs.Fired.{rule_got}
use Rattle.ld_settling.specs.Gathering.{with_cells}
use Rattle.ld_settling.proofs.Latching.{looks_of_none, no_rule, open_of_rule, reads_all, short_of_all}
use Rattle.ld_settling.proofs.Reading.{on_err, on_ok}
use Rattle.ld_settling.proofs.reads.site_reads.Goals as goal

pub returns-in_default-clause-reads : goal.returns-in_default-clause-reads
returns-in_default-clause-reads g c =
    let unit = c.args.unit.now in
    let run = run_of c.args.state.now in
    let site = site_of c.args.site in
    let missing = no_rule unit c.rules.result.now site c.rules.ensures.rules c.in_default.ensures.lookup.3 in
    c.clear.ensures.empty
    ∙ ap (with_cells unit run []) (sym (looks_of_none unit (seen_in unit run) site missing))

pub returns-clause-reads : goal.returns-clause-reads
returns-clause-reads g c =
    let found = c.in-Some.ensures.lookup in
    let at = rule_got c.args.unit.now c.rules.result.now (site_of c.args.site) c.in-Some.rule.now c.rules.ensures.rules found.3.0 found.1 in
    on_ok c.read_site.result
    (reads_all c.args.unit.now (run_of c.args.state.now) (site_of c.args.site) c.in-Some.rule.now at
    c.clear.new.self c.read_site.new.list c.clear.ensures.empty)
    c.read_site.ensures.gathers

pub returns-clause-short : goal.returns-clause-short
returns-clause-short g c =
    let found = c.in-Some.ensures.lookup in
    let at = rule_got c.args.unit.now c.rules.result.now (site_of c.args.site) c.in-Some.rule.now c.rules.ensures.rules found.3.0 found.1 in
    on_err c.read_site.result
    (short_of_all c.args.unit.now (run_of c.args.state.now) (site_of c.args.site) c.in-Some.rule.now at
    c.args.list.now c.clear.new.self c.clear.ensures.empty c.clear.ensures.room)
    c.read_site.ensures.short

pub returns-clause-cost : goal.returns-clause-cost
returns-clause-cost g c =
    let unit = c.args.unit.now in
    let found = c.in-Some.ensures.lookup in
    let at = rule_got c.args.unit.now c.rules.result.now (site_of c.args.site) c.in-Some.rule.now c.rules.ensures.rules found.3.0 found.1 in
    let same = open_of_rule unit (seen_in unit (run_of c.args.state.now)) (site_of c.args.site) c.in-Some.rule.now at in
    omega (arith, c.read_site.ensures.cost, ap length same)
