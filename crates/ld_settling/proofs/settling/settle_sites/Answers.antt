use Rattle.std.proofs.Common.{◌≡◌, refl, ap, subst, arith, OnOk}
use Rattle.ld_cascade.specs.Outcome.{IsSettled}
use Rattle.ld_cascade.specs.Settling.{PassesBudget, all_firings}
use Rattle.ld_cascade.specs.Work.{Spends}
use Rattle.ld_model.specs.declared.unit.Unit.{Unit}
use Rattle.ld_state.specs.StateView.{run_of}
use Rattle.ld_firing.specs.RunSystem.{IsSoundRun, run_system}
use Rattle.ld_firing.proofs.TurnsFew.{turns_are_few}
use Rattle.ld_settling.specs.RunLinking.{AreCleanLinks, linked_with}
use Rattle.ld_settling.specs.SitesView.{unit_run_of}
use Rattle.ld_settling.specs.UnitRuns.{RunSetting, unit_runs}
use Rattle.ld_settling.proofs.CleanLinks.{clean_settled}
use Rattle.ld_settling.proofs.Outcomes.{if_both, on_both, on_five, on_if}
use Rattle.ld_settling.proofs.Linking.{bound_in_units, covers_in_units, sites_few, tidy_in_units}
use Rattle.ld_settling.proofs.SettlingTold.{settling_tells, told_after, told_in_unit}
use Rattle.ld_settling.proofs.UnitSettling.{passed_run, settled_run, spends_in_unit}
use Rattle.ld_settling.proofs.settling.settle_sites.Goals as goal

pub settle-requires-clause-few : goal.settle-requires-clause-few
settle-requires-clause-few g c =
    sites_few c.args.sites.now.unit.now c.requires.sound.valid (run_of c.args.sites.now.state.now) refl

pub settle-requires-clause-turns : goal.settle-requires-clause-turns
settle-requires-clause-turns g c =
    let same = ap (λ (unit : Unit). unit.turns) c.unit.ensures.unit in
    omega (arith, same, turns_are_few c.args.sites.now.unit.now c.requires.sound.valid.formed)

pub returns-clause-settled : goal.returns-clause-settled
returns-clause-settled g c =
    let s = unit_run_of c.args.sites.now in
    if_both c.settle.result c.settle.ensures.settled c.settle.ensures.state
    (λ r settled same. settled_run s (unit_run_of c.settle.new.sites) r
    (subst (λ (unit : Unit). IsSettled unit_runs s unit.turns r) c.unit.ensures.unit settled) same)

pub returns-clause-budget : goal.returns-clause-budget
returns-clause-budget g c is =
    let s = unit_run_of c.args.sites.now in
    passed_run s (subst (λ (unit : Unit). PassesBudget unit_runs s unit.turns) c.unit.ensures.unit (c.settle.ensures.budget is))

pub returns-clause-sound : goal.returns-clause-sound
returns-clause-sound g c =
    let same = ap (λ (setting : RunSetting). setting.unit) c.settle.ensures.setting in
    on_if c.settle.result c.settle.ensures.sound
    (λ r sound. subst (λ (unit : Unit). IsSoundRun unit (run_of c.settle.new.sites.state.now)) same sound.run)

pub settle-requires-clause-tidy : goal.settle-requires-clause-tidy
settle-requires-clause-tidy g c = tidy_in_units (unit_run_of c.args.sites.now) c.args.links.now c.requires.linked.wired

pub settle-requires-clause-bound : goal.settle-requires-clause-bound
settle-requires-clause-bound g c = bound_in_units (unit_run_of c.args.sites.now) c.args.links.now c.requires.linked.wired

pub settle-requires-clause-covers : goal.settle-requires-clause-covers
settle-requires-clause-covers g c = covers_in_units (unit_run_of c.args.sites.now) c.args.links.now c.requires.linked.wired

pub returns-clause-clean : goal.returns-clause-clean
returns-clause-clean g c =
    let e = c.settle.ensures in
    let new = c.settle.new.sites in
    let same = ap (λ (setting : RunSetting). setting.unit) e.setting in
    on_five c.settle.result e.tidy e.bound e.covers e.none e.rooms
    (λ r tidy bound covers none rooms.
    subst (λ (unit : Unit). AreCleanLinks unit (run_of new.state.now) (linked_with c.settle.new.links new.list.now.room)) same
    (clean_settled (unit_run_of new) c.settle.new.links new.list.now.room tidy bound covers none (rooms c.requires.linked.rooms)))

pub returns-clause-changed : goal.returns-clause-changed
returns-clause-changed g c =
    let s = unit_run_of c.args.sites.now in
    let before = c.args.changed.now.items in
    let told = c.settle.new.changed.items in
    subst (λ (unit : Unit). OnOk c.settle.result (told ≡ told_after s unit.turns before)) c.unit.ensures.unit
    (on_if c.settle.result c.settle.ensures.changed (λ r is. told_in_unit s _ before told is))

pub returns-clause-told : goal.returns-clause-told
returns-clause-told g c =
    let s = unit_run_of c.args.sites.now in
    let t = unit_run_of c.settle.new.sites in
    let before = c.args.changed.now.items in
    let told = c.settle.new.changed.items in
    on_both c.settle.result c.settle.ensures.changed c.settle.ensures.untold
    (λ r is differ. settling_tells s t _ before told c.requires.sound c.settle.ensures.setting (told_in_unit s _ before told is) differ)

pub returns-clause-spends : goal.returns-clause-spends
returns-clause-spends g c =
    let s = unit_run_of c.args.sites.now in
    let old = c.args.links.now in
    let new = c.settle.new.links in
    let before = c.args.steps.now in
    let after = c.settle.new.steps in
    subst (λ (unit : Unit). Spends (run_system s.unit) s.run (all_firings (run_system s.unit) s.run unit.turns) old new before after) c.unit.ensures.unit
    (spends_in_unit s _ old new before after c.settle.ensures.spends)
