use Rattle.std.proofs.Common.{◌≡◌, ◌∙◌, ◌++◌, [], IfErr, ap, ap₂, arith, false, refl, subst, sym, true}
use Rattle.ld_firing.specs.Telling.{Tells}
use Rattle.ld_roles.specs.Kept.{persons_of}
use Rattle.ld_firing.specs.SettledView.{settlement_of}
use Rattle.ld_state.specs.StateView.{run_of}
use Rattle.ld_state.proofs.Elements.{in_from_contains}
use Rattle.ld_state.proofs.Written.{on_ok}
use Rattle.ld_settling.proofs.CleanLinks.{clean_linked}
use Rattle.ld_sharing.specs.Changes.{IsGivenBut}
use Rattle.ld_sharing.specs.StoreView.{values_of}
use Rattle.ld_admission.specs.Checks.{is_started}
use Rattle.ld_admission.specs.RefusalView.{RefusesWith}
use Rattle.ld_run.specs.CleanBefore.{WereClean}
use Rattle.ld_run.specs.CommandWork.{slots_if, steps_if}
use Rattle.ld_run.specs.Running.{IsInOrder}
use Rattle.ld_sharing.specs.Globals.{taking_in}
use Rattle.ld_run.specs.RunStep.{at_moment, settled}
use Rattle.ld_run.proofs.FittingRuns.{dated_fits, taken_fits}
use Rattle.ld_run.proofs.GivenRuns.{given_on, taken_given}
use Rattle.ld_run.proofs.LawsKept.{stays_started_by}
use Rattle.ld_run.proofs.LinkedRuns.{closed_links}
use Rattle.ld_run.proofs.SoundRuns.{dated_is_sound, taken_is_sound, possible_stays}
use Rattle.ld_run.proofs.StepStages.{on_each, on_value, stays_closed}
use Rattle.ld_run.proofs.doing.settle_first.Goals as goal

-- A run that is refreshed is in order.
pub settle_if-requires-clause-order : goal.settle_if-requires-clause-order
settle_if-requires-clause-order g c =
    let unit = c.args.unit.now in
    let store = values_of c.args.globals.now in
    let s = run_of c.args.state.now in
    let dated = at_moment s c.args.moment.0 in
    let order = c.requires.running.order in
    subst (IsInOrder unit) (sym c.in_default.ensures.run) (record {
      sound = taken_is_sound unit store dated (dated_is_sound unit s c.args.moment.0 order.sound c.requires.moment) c.in_default.ensures.takes;
      fitting = taken_fits unit store dated (dated_fits unit s c.args.moment.0 order.fitting) c.in_default.ensures.takes;
      notices = order.notices;
    })

-- If it is started, its links are those of the run before, and what changed is told.
pub settle_if-requires-clause-told : goal.settle_if-requires-clause-told
settle_if-requires-clause-told g c settles =
    let s = run_of c.args.state.now in
    let t = run_of c.refresh.new.state in
    let started = c.is_started-started.ensures.value ∙ ap is_started c.in_default.ensures.run in
    record {
      earlier = s;
      sound = c.requires.running.order.sound;
      links = clean_linked c.args.unit.now s c.args.links.now (c.requires.running.linked.0 (sym started ∙ settles));
      tells = subst (λ slots. Tells c.args.unit.now s t slots c.refresh.new.changed.items) c.clear.ensures.items c.in_default.ensures.told;
    }

pub settle_if-requires-clause-linked : goal.settle_if-requires-clause-linked
settle_if-requires-clause-linked g c closed =
    let started = c.is_started-started.ensures.value ∙ ap is_started c.in_default.ensures.run in
    closed_links c.args.unit.now (run_of c.args.state.now) (run_of c.refresh.new.state) c.args.links.now c.requires.running.linked
    (sym started ∙ closed) (sym c.is_started-started.ensures.value ∙ closed)

-- A run that settles is started.
pub settle_if-requires-clause-started : goal.settle_if-requires-clause-started
settle_if-requires-clause-started g c settles = sym c.is_started-started.ensures.value ∙ settles

pub returns-clause-settled : goal.returns-clause-settled
returns-clause-settled g c =
    let started = c.is_started-started.ensures.value ∙ ap is_started c.in_default.ensures.run in
    let same = ap₂ (λ b s. settled b c.args.unit.now s) (sym started) (sym c.in_default.ensures.run) in
    on_each c.settle_if.result c.settle_if.ensures.settled (λ totals is. same ∙ is)

pub returns-clause-refused : goal.returns-clause-refused
returns-clause-refused g c =
    let started = c.is_started-started.ensures.value ∙ ap is_started c.in_default.ensures.run in
    let same = ap₂ (λ b s. settled b c.args.unit.now s) (sym started) (sym c.in_default.ensures.run) in
    subst (λ answer. IfErr c.settle_if.result (RefusesWith answer)) (sym same) c.settle_if.ensures.refused

-- The persons are the same, a run that was not started is not, and one that was is.
pub returns-clause-stays : goal.returns-clause-stays
returns-clause-stays g c command =
    let same = ap persons_of (sym (c.settle_if.ensures.rows ∙ c.refresh.ensures.rows)) in
    let unit = c.args.unit.now in
    let store = values_of c.args.globals.now in
    let s = run_of c.args.state.now in
    on_value c.settle_if.result (returns-clause-settled g c)
    (λ totals is. possible_stays unit s (run_of c.settle_if.new.state) same
    (stays_closed unit store s c.args.moment.0 command (settlement_of totals (run_of c.settle_if.new.state)) is)
    (stays_started_by unit (is_started s) (taking_in unit store (at_moment s c.args.moment.0))
    (settlement_of totals (run_of c.settle_if.new.state)) is) command)

-- Then it has the store's values, but where its settling changed it.
pub returns-clause-given : goal.returns-clause-given
returns-clause-given g c =
    let unit = c.args.unit.now in
    let store = c.args.globals.now in
    let taken = run_of c.refresh.new.state in
    let dated = at_moment (run_of c.args.state.now) c.args.moment.0 in
    let valid = c.requires.running.order.sound.valid in
    let had = subst (λ s. IsGivenBut unit s store []) (sym c.in_default.ensures.run)
    (taken_given unit valid store c.requires.serves dated) in
    let last = c.settle_if.new.scratch.written.items in
    on_ok c.settle_if.result c.settle_if.ensures.written (λ tells.
    given_on unit valid store c.requires.serves taken (run_of c.settle_if.new.state) [] last last had
    tells.persons tells.untold (λ k none. absurd (in_from_contains [] k none)) (λ k there. there))

-- ---- what it changes, and what it takes

pub returns-clause-fired : goal.returns-clause-fired
returns-clause-fired g c =
    let unit = c.args.unit.now in
    let taken = run_of c.refresh.new.state in
    let started = c.is_started-started.ensures.value ∙ ap is_started c.in_default.ensures.run in
    on_ok c.settle_if.result c.settle_if.ensures.fired (λ is.
    is ∙ ap (λ early. early ++ slots_if c.is_started-started.result unit taken) c.clear-2.ensures.items
    ∙ ap₂ (λ b t. slots_if b unit t) started c.in_default.ensures.run)

pub returns-clause-cost : goal.returns-clause-cost
returns-clause-cost g c =
    let unit = c.args.unit.now in
    let s = run_of c.args.state.now in
    let taken = run_of c.refresh.new.state in
    let told = c.refresh.new.changed.items in
    let started = c.is_started-started.ensures.value ∙ ap is_started c.in_default.ensures.run in
    let were : c.is_started-started.result ≡ true → WereClean unit s taken told c.args.links.now = λ settles. record {
      sound = c.requires.running.order.sound;
      seats = refl;
      clean = c.requires.running.linked.0 (sym started ∙ settles);
      tells = c.in_default.ensures.only c.clear.ensures.items;
    } in
    let cost = c.settle_if.ensures.cost s s refl were in
    let same = ap₂ (λ b t. steps_if b false unit s s t) started c.in_default.ensures.run in
    omega (arith, cost, same, c.refresh.ensures.cost, c.is_started-started.ensures.cost)
