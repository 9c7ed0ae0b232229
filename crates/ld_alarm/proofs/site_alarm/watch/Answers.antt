use Rattle.std.proofs.Common.{◌≡◌, sym, ap₂, ◌∙◌, length, not, Bool}
use Rattle.ld_value.specs.Datum.{same_truth}
use Rattle.ld_rules.specs.SiteLooks.{open_looks}
use Rattle.ld_rules.specs.SiteView.{site_of}
use Rattle.ld_alarm.specs.Later.{count_after}
use Rattle.ld_alarm.specs.Switches.{site_switches}
use Rattle.ld_alarm.proofs.Bound.{within_begins, within_goes_on, within_ends, within_finds}
use Rattle.ld_alarm.proofs.FromValid.{timely_unit}
use Rattle.ld_alarm.proofs.NextAfter.{count_most}
use Rattle.ld_alarm.proofs.SwitchesFew.{site_few}
use Rattle.ld_alarm.proofs.Watching.{watch_begins, watch_ends, watch_finds, watch_goes_on, watch_shortens}
use Rattle.ld_alarm.proofs.site_alarm.watch.Goals as goal

-- What the program was told of the two.
told : {then says then_is says_is result answer : Bool} → then ≡ then_is → says ≡ says_is → result ≡ not (same_truth then says)
    → result ≡ answer → not (same_truth then_is says_is) ≡ answer
told there here is answered = ap₂ (λ a b. not (same_truth a b)) (sym there) (sym here) ∙ sym is ∙ answered

pub switches-init : goal.switches-init
switches-init g c =
    let unit = c.args.unit.now in
    let seen = g.V.View.seen c.args.view.now in
    let site = site_of c.args.site in
    let switches = site_switches unit seen site in (
      watch_begins unit seen site c.args.now.0 c.requires.clock,
      within_begins c.judge-says.new.steps c.args.steps.now (length (open_looks unit seen site)) (length switches)
          (count_after c.args.now.0 switches) (site_few unit seen site) (count_most c.args.now.0 switches) c.judge-says.ensures.cost,
    )

pub returns-in_default-clause-value : goal.returns-in_default-clause-value
returns-in_default-clause-value g c =
    let unit = c.args.unit.now in
    let seen = g.V.View.seen c.args.view.now in
    sym (watch_ends unit seen (site_of c.args.site) (timely_unit unit c.valid.ensures) c.args.now.0 c.switches.moment.0
    c.switches.invariant.0 (sym c.in_default.ensures.value))

pub returns-in_default-clause-cost : goal.returns-in_default-clause-cost
returns-in_default-clause-cost g c =
    let unit = c.args.unit.now in
    let seen = g.V.View.seen c.args.view.now in
    let site = site_of c.args.site in
    let switches = site_switches unit seen site in
    within_ends c.switches.steps c.args.steps.now (length (open_looks unit seen site)) (length switches)
    (count_after c.switches.moment.0 switches) c.next_of_site.new.steps c.switches.invariant.1 c.next_of_site.ensures.cost

pub returns-then-differ-clause-value : goal.returns-then-differ-clause-value
returns-then-differ-clause-value g c =
    let unit = c.args.unit.now in
    let seen = g.V.View.seen c.args.view.now in
    sym (watch_finds unit seen (site_of c.args.site) (timely_unit unit c.valid.ensures) c.args.now.0 c.switches.moment.0
    c.switches.invariant.0 c.in-Some.next.0 (sym c.in-Some.ensures.value)
    (told c.judge_at-then.ensures.value c.judge-says.ensures.value c.differ.ensures c.if-differ.true))

pub returns-then-differ-clause-cost : goal.returns-then-differ-clause-cost
returns-then-differ-clause-cost g c =
    let unit = c.args.unit.now in
    let seen = g.V.View.seen c.args.view.now in
    let site = site_of c.args.site in
    let switches = site_switches unit seen site in
    let shorter = watch_shortens unit seen site (timely_unit unit c.valid.ensures) c.args.now.0 c.switches.moment.0
    c.switches.invariant.0 c.in-Some.next.0 (sym c.in-Some.ensures.value) in
    within_finds c.switches.steps c.args.steps.now (length (open_looks unit seen site)) (length switches)
    (count_after c.switches.moment.0 switches) c.next_of_site.new.steps c.judge_at-then.new.steps (count_after c.in-Some.next.0 switches)
    c.switches.invariant.1 shorter c.next_of_site.ensures.cost c.judge_at-then.ensures.cost

pub switches-smaller : goal.switches-smaller
switches-smaller g c =
    let unit = c.args.unit.now in
    let seen = g.V.View.seen c.args.view.now in
    watch_shortens unit seen (site_of c.args.site) (timely_unit unit c.valid.ensures) c.args.now.0 c.switches.moment.0
    c.switches.invariant.0 c.in-Some.next.0 (sym c.in-Some.ensures.value)

pub switches-preserved : goal.switches-preserved
switches-preserved g c =
    let unit = c.args.unit.now in
    let seen = g.V.View.seen c.args.view.now in
    let site = site_of c.args.site in
    let switches = site_switches unit seen site in
    let timely = timely_unit unit c.valid.ensures in
    let found = sym c.in-Some.ensures.value in
    let next = c.in-Some.next.0 in
    let shorter = watch_shortens unit seen site timely c.args.now.0 c.switches.moment.0 c.switches.invariant.0 next found in
    let goes = watch_goes_on unit seen site timely c.args.now.0 c.switches.moment.0 c.switches.invariant.0 next found
    (told c.judge_at-then.ensures.value c.judge-says.ensures.value c.differ.ensures c.if-differ.false) in (
      goes,
      within_goes_on c.switches.steps c.args.steps.now (length (open_looks unit seen site)) (length switches)
          (count_after c.switches.moment.0 switches) c.next_of_site.new.steps c.judge_at-then.new.steps (count_after next switches)
          c.switches.invariant.1 c.next_of_site.ensures.cost c.judge_at-then.ensures.cost shorter,
    )
