use Rattle.std.proofs.Common.{◌≡◌, Some, ap, sym, subst, length, arith}
use Rattle.std.specs.List.{sum_by}
use Rattle.ld_model.specs.declared.unit.Unit.{Unit}
use Rattle.ld_firing.specs.ActionCells.{HasSlots, firing_cells}
use Rattle.ld_firing.specs.Actions.{actions_of}
use Rattle.ld_firing.specs.Costs.{action_cost}
use Rattle.ld_rules.specs.SiteTests.{rule_of}
use Rattle.ld_rules.specs.SiteView.{site_of}
use Rattle.ld_firing.proofs.ActionsThere.{fires_there}
use Rattle.ld_firing.proofs.Fired.{fired_run, fired_changed, fired_rejected, fired_sent, costs_of, firing_got, never_missing, rule_got}
use Rattle.ld_state.specs.StateView.{run_of}
use Rattle.ld_firing.proofs.firing.fire.Goals as goal

pub unreachable-requires : goal.unreachable-requires
unreachable-requires g c =
    never_missing c.args.unit.now (length c.args.state.now.rows) (site_of c.args.site) c.requires.there c.rules.result.now
    c.rules.ensures.rules c.get.result c.in_default.is c.get.ensures.lookup.2

pub fire-requires-clause-cells : goal.fire-requires-clause-cells
fire-requires-clause-cells g c =
    let persons = length c.args.state.now.rows in
    let ruled : rule_of c.args.unit.now (site_of c.args.site) ≡ Some c.in-Some.rule.now =
    rule_got c.args.unit.now c.rules.result.now (site_of c.args.site) c.in-Some.rule.now c.rules.ensures.rules
    c.in-Some.ensures.lookup.3.0 c.in-Some.ensures.lookup.1 in
    subst (λ (unit : Unit). HasSlots unit persons (firing_cells unit persons c.args.site.owner c.args.site.rule.0 c.in-Some.rule.now c.args.verdict))
    (sym c.unit.ensures.unit)
    (fires_there c.args.unit.now persons c.unit.ensures.valid (site_of c.args.site) c.in-Some.rule.now c.args.verdict ruled c.requires.there)

pub returns-clause-run : goal.returns-clause-run
returns-clause-run g c =
    fired_run c.args.unit.now c.args.state.now c.fire.new.state c.args.changed.now.items c.fire.new.changed.items (site_of c.args.site)
    c.in-Some.rule.now c.args.verdict
    (firing_got c.args.unit.now (run_of c.args.state.now) c.rules.result.now (site_of c.args.site) c.in-Some.rule.now c.args.verdict
    c.rules.ensures.rules c.in-Some.ensures.lookup.3.0 c.in-Some.ensures.lookup.1 c.requires.verdict)
    c.unit.ensures.unit c.fire.result c.fire.ensures.does

pub returns-clause-changed : goal.returns-clause-changed
returns-clause-changed g c =
    fired_changed c.args.unit.now c.args.state.now c.fire.new.state c.args.changed.now.items c.fire.new.changed.items (site_of c.args.site)
    c.in-Some.rule.now c.args.verdict
    (firing_got c.args.unit.now (run_of c.args.state.now) c.rules.result.now (site_of c.args.site) c.in-Some.rule.now c.args.verdict
    c.rules.ensures.rules c.in-Some.ensures.lookup.3.0 c.in-Some.ensures.lookup.1 c.requires.verdict)
    c.unit.ensures.unit c.fire.result c.fire.ensures.does

pub returns-clause-rejected : goal.returns-clause-rejected
returns-clause-rejected g c =
    fired_rejected c.args.unit.now c.args.state.now c.fire.new.state c.args.changed.now.items c.fire.new.changed.items (site_of c.args.site)
    c.in-Some.rule.now c.args.verdict
    (firing_got c.args.unit.now (run_of c.args.state.now) c.rules.result.now (site_of c.args.site) c.in-Some.rule.now c.args.verdict
    c.rules.ensures.rules c.in-Some.ensures.lookup.3.0 c.in-Some.ensures.lookup.1 c.requires.verdict)
    c.unit.ensures.unit c.fire.result c.fire.ensures.does

pub returns-clause-sent : goal.returns-clause-sent
returns-clause-sent g c =
    fired_sent c.args.unit.now c.args.state.now c.fire.new.state c.args.changed.now.items c.fire.new.changed.items (site_of c.args.site)
    c.in-Some.rule.now c.args.verdict
    (firing_got c.args.unit.now (run_of c.args.state.now) c.rules.result.now (site_of c.args.site) c.in-Some.rule.now c.args.verdict
    c.rules.ensures.rules c.in-Some.ensures.lookup.3.0 c.in-Some.ensures.lookup.1 c.requires.verdict)
    c.unit.ensures.unit c.fire.result c.fire.ensures.does

pub returns-clause-cost : goal.returns-clause-cost
returns-clause-cost g c =
    let same = costs_of c.args.unit.now (run_of c.args.state.now) (site_of c.args.site) c.in-Some.rule.now c.args.verdict
    (firing_got c.args.unit.now (run_of c.args.state.now) c.rules.result.now (site_of c.args.site) c.in-Some.rule.now c.args.verdict
    c.rules.ensures.rules c.in-Some.ensures.lookup.3.0 c.in-Some.ensures.lookup.1 c.requires.verdict) in
    omega (
      arith,
      c.fire.ensures.cost,
      same,
      ap (λ (unit : Unit). sum_by (action_cost unit (run_of c.args.state.now) c.args.site.owner)
          (actions_of unit c.in-Some.rule.now c.args.verdict)) c.unit.ensures.unit,
    )
