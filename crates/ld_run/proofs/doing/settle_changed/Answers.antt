use Rattle.std.proofs.Common.{◌≡◌, ◌∙◌, ◌&&◌, ◌++◌, IfErr, ap, ap₂, arith, length, refl, subst, sym, true}
use Rattle.std.proofs.lemmas.Bool.{and_parts}
use Rattle.ld_firing.specs.SettledView.{settlement_of}
use Rattle.ld_firing.specs.Telling.{Tells}
use Rattle.ld_state.proofs.SeenSame.{persons_counted}
use Rattle.ld_roles.specs.Kept.{persons_of}
use Rattle.ld_state.specs.RunState.{RunState}
use Rattle.ld_state.specs.StateView.{run_of}
use Rattle.ld_state.proofs.Written.{on_ok}
use Rattle.ld_sharing.specs.Changes.{IsGivenBut}
use Rattle.ld_sharing.specs.StoreView.{values_of}
use Rattle.ld_replies.specs.Printing.{IsTellable, AreNoticesOf}
use Rattle.ld_admission.specs.AdmittedView.{admitted_of}
use Rattle.ld_admission.specs.Checks.{is_started}
use Rattle.ld_admission.specs.RefusalView.{RefusesWith}
use Rattle.ld_run.specs.Changes.{directly_changed, has_change, renews_sites, written_directly}
use Rattle.ld_run.specs.CleanBefore.{MayCount}
use Rattle.ld_run.specs.CommandWork.{slots_if, steps_if}
use Rattle.ld_run.specs.Linked.{MayRelink, relinking_of, relinks_all}
use Rattle.ld_run.specs.Running.{IsInOrder}
use Rattle.ld_run.specs.RunStep.{settled}
use Rattle.ld_run.specs.declared.settling.Relinking.{Relinking}
use Rattle.ld_run.proofs.FittingRuns.{changed_fits}
use Rattle.ld_run.proofs.GivenRuns.{changed_given, given_on}
use Rattle.ld_run.proofs.LawsNotices.{changed_outbox}
use Rattle.ld_run.proofs.LawsKept.{stays_started_by}
use Rattle.ld_run.proofs.LinkedRuns.{clean_before, links_before, relinks_as, relinks_some, tells_by, unsettled_links}
use Rattle.ld_run.proofs.SoundRuns.{changed_is_sound, tellable_after, tellable_stays}
use Rattle.ld_run.proofs.StepStages.{on_any, on_each, on_value}
use Rattle.ld_run.proofs.doing.settle_changed.Goals as goal

-- The direct change leaves a run in order.
pub settle_if-requires-clause-order : goal.settle_if-requires-clause-order
settle_if-requires-clause-order g c =
    let unit = c.args.unit.now in
    let store = values_of c.args.globals.now in
    let s = run_of c.args.state.now in
    let moment = c.args.moment.0 in
    let command = admitted_of c.args.command.now in
    let order = c.requires.running.order in
    let change = c.in_default.ensures in
    subst (IsInOrder unit) (sym change.run) (record {
      sound = changed_is_sound unit store s moment command order.sound refl c.requires.may.dated change.joins c.requires.may.possible;
      fitting = changed_fits unit store s moment command order.fitting c.requires.may.writes change.joins;
      notices = subst (AreNoticesOf unit) (sym (changed_outbox unit store s moment command)) order.notices;
    })

-- If it is started then, its links are those of the run before, and what changed is told, or its sites are renewed.
pub settle_if-requires-clause-told : goal.settle_if-requires-clause-told
settle_if-requires-clause-told g c settles =
    let unit = c.args.unit.now in
    let s = run_of c.args.state.now in
    let t = run_of c.change_directly.new.state in
    let command = admitted_of c.args.command.now in
    let told = c.in_default.ensures in
    let how = c.how_to_relink-how.ensures
    ∙ ap (relinking_of command) (c.persons-before.ensures ∙ sym (persons_counted c.args.state.now)) in
    let slots = c.change_directly.new.changed.items in
    let tells = tells_by unit s t slots command
    (λ plain others. subst (λ before. Tells unit s t before slots) c.clear.ensures.items (told.told plain others))
    (λ persons. told.told_persons persons c.clear.ensures.items) in
    subst (λ (relinking : Relinking). MayRelink relinking unit t slots c.args.links.now) (sym how)
    (links_before unit (values_of c.args.globals.now) s t c.args.moment.0 command c.args.links.now
    told.run c.requires.running.linked c.requires.running.order.sound c.requires.may.possible slots tells
    (sym c.settles_after-settles.ensures.value ∙ settles))

pub settle_if-requires-clause-linked : goal.settle_if-requires-clause-linked
settle_if-requires-clause-linked g c closed =
    unsettled_links c.args.unit.now (values_of c.args.globals.now) (run_of c.args.state.now)
    (run_of c.change_directly.new.state) c.args.moment.0 (admitted_of c.args.command.now) c.args.links.now
    c.in_default.ensures.run c.requires.running.linked c.requires.may.possible (sym c.settles_after-settles.ensures.value ∙ closed)

-- A run that settles is started.
pub settle_if-requires-clause-started : goal.settle_if-requires-clause-started
settle_if-requires-clause-started g c settles =
    (and_parts (has_change (admitted_of c.args.command.now)) (is_started (run_of c.change_directly.new.state))
    (sym c.settles_after-settles.ensures.value ∙ settles)).1

pub returns-clause-settled : goal.returns-clause-settled
returns-clause-settled g c =
    let unit = c.args.unit.now in
    let command = admitted_of c.args.command.now in
    let after = λ (t : RunState). settled (has_change command && is_started t) unit t in
    let same = ap after (sym c.in_default.ensures.run)
    ∙ ap (λ b. settled b unit (run_of c.change_directly.new.state)) (sym c.settles_after-settles.ensures.value) in
    on_each c.settle_if.result c.settle_if.ensures.settled (λ totals is. same ∙ is)

pub returns-clause-refused : goal.returns-clause-refused
returns-clause-refused g c =
    let unit = c.args.unit.now in
    let command = admitted_of c.args.command.now in
    let after = λ (t : RunState). settled (has_change command && is_started t) unit t in
    let same = ap after (sym c.in_default.ensures.run)
    ∙ ap (λ b. settled b unit (run_of c.change_directly.new.state)) (sym c.settles_after-settles.ensures.value) in
    subst (λ answer. IfErr c.settle_if.result (RefusesWith answer)) (sym same) c.settle_if.ensures.refused

pub returns-clause-tellable : goal.returns-clause-tellable
returns-clause-tellable g c =
    let unit = c.args.unit.now in
    let command = admitted_of c.args.command.now in
    on_value c.settle_if.result c.settle_if.ensures.settled
    (λ totals is. tellable_stays unit (run_of c.change_directly.new.state) (run_of c.settle_if.new.state)
    (ap persons_of (sym c.settle_if.ensures.rows))
    (stays_started_by unit c.settles_after-settles.result (run_of c.change_directly.new.state)
    (settlement_of totals (run_of c.settle_if.new.state)) is) command
    (subst (λ (s : RunState). IsTellable unit s command) (sym c.in_default.ensures.run)
    (tellable_after unit (values_of c.args.globals.now) (run_of c.args.state.now) c.args.moment.0 command c.requires.may.possible)))

-- Where not all sites of the run are renewed, the links follow those before.
pub returns-clause-follows : goal.returns-clause-follows
returns-clause-follows g c plain =
    c.settle_if.ensures.follows
    (ap relinks_all c.how_to_relink-how.ensures ∙ relinks_some (admitted_of c.args.command.now) c.persons-before.result plain)

-- The run has the store's values but where it was changed, directly or by the settling.
pub returns-clause-given : goal.returns-clause-given
returns-clause-given g c =
    let unit = c.args.unit.now in
    let store = c.args.globals.now in
    let s = run_of c.args.state.now in
    let t = run_of c.change_directly.new.state in
    let valid = c.requires.running.order.sound.valid in
    let change = c.in_default.ensures in
    let told = c.change_directly.new.changed.items in
    let before = c.args.scratch.now.written.items in
    let last = c.settle_if.new.scratch.written.items in
    let all = c.add_written.new.written.items in
    let is_all = c.in_default-add_written.ensures
    ∙ ap (λ slots. before ++ written_directly (admitted_of c.args.command.now) slots) c.deref.ensures.value in
    let had : IsGivenBut unit t store all = subst (IsGivenBut unit t store) (sym is_all)
    (changed_given unit valid store c.requires.serves s t c.args.moment.0 (admitted_of c.args.command.now) before told change.run
    (λ plain others. subst (λ early. Tells unit s t early told) c.clear.ensures.items (change.told plain others)) c.requires.given) in
    on_ok c.settle_if.result c.settle_if.ensures.written (λ tells.
    given_on unit valid store c.requires.serves t (run_of c.settle_if.new.state) all last last had
    tells.persons tells.untold (λ k there. tells.kept k there) (λ k there. there))

-- ---- what it changes, and what it takes

pub returns-clause-fired : goal.returns-clause-fired
returns-clause-fired g c =
    let unit = c.args.unit.now in
    let command = admitted_of c.args.command.now in
    let told = c.change_directly.new.changed.items in
    let before = c.args.scratch.now.written.items in
    let settles = c.settles_after-settles.ensures.value ∙ ap (λ t. has_change command && is_started t) c.in_default.ensures.run in
    on_ok c.settle_if.result c.settle_if.ensures.fired (λ is.
    is ∙ ap₂ (λ early more. early ++ more)
    (c.in_default-add_written.ensures ∙ ap (λ slots. before ++ written_directly command slots) (c.deref.ensures.value ∙ sym c.settle_if.ensures.told))
    (ap₂ (λ b t. slots_if b unit t) settles c.in_default.ensures.run))

pub returns-clause-cost : goal.returns-clause-cost
returns-clause-cost g c begun seats =
    let unit = c.args.unit.now in
    let s = run_of c.args.state.now in
    let t = run_of c.change_directly.new.state in
    let command = admitted_of c.args.command.now in
    let now = directly_changed unit (values_of c.args.globals.now) s c.args.moment.0 command in
    let settles = c.settles_after-settles.result in
    let how = c.how_to_relink-how.result in
    let told = c.change_directly.new.changed.items in
    let relinking = c.how_to_relink-how.ensures
    ∙ ap (relinking_of command) (c.persons-before.ensures ∙ sym (persons_counted c.args.state.now)) in
    let same : settles ≡ (has_change command && is_started now) =
    c.settles_after-settles.ensures.value ∙ ap (λ r. has_change command && is_started r) c.in_default.ensures.run in
    let renews : relinks_all how ≡ renews_sites command = ap relinks_all relinking ∙ relinks_as command (length s.persons) in
    let were : settles ≡ true → MayCount how unit s t told c.args.links.now = λ is.
    subst (λ (one : Relinking). MayCount one unit s t told c.args.links.now) (sym relinking)
    (clean_before unit (values_of c.args.globals.now) s t c.args.moment.0 command c.args.links.now c.in_default.ensures.run
    c.requires.running.linked c.requires.running.order.sound refl c.requires.may.possible told
    (c.in_default.ensures.only c.clear.ensures.items) (sym c.settles_after-settles.ensures.value ∙ is)) in
    let cost = c.settle_if.ensures.cost begun s seats were in
    let steps = ap₂ (λ b r. steps_if b (relinks_all how) unit begun s r) same c.in_default.ensures.run
    ∙ ap (λ b. steps_if (has_change command && is_started now) b unit begun s now) renews in
    omega (arith, cost, steps, c.change_directly.ensures.cost, c.settles_after-settles.ensures.cost)

pub returns-clause-gives : goal.returns-clause-gives
returns-clause-gives g c begun seats =
    let unit = c.args.unit.now in
    let s = run_of c.args.state.now in
    let t = run_of c.change_directly.new.state in
    let command = admitted_of c.args.command.now in
    let now = directly_changed unit (values_of c.args.globals.now) s c.args.moment.0 command in
    let settles = c.settles_after-settles.result in
    let how = c.how_to_relink-how.result in
    let told = c.change_directly.new.changed.items in
    let relinking = c.how_to_relink-how.ensures
    ∙ ap (relinking_of command) (c.persons-before.ensures ∙ sym (persons_counted c.args.state.now)) in
    let same : settles ≡ (has_change command && is_started now) =
    c.settles_after-settles.ensures.value ∙ ap (λ r. has_change command && is_started r) c.in_default.ensures.run in
    let renews : relinks_all how ≡ renews_sites command = ap relinks_all relinking ∙ relinks_as command (length s.persons) in
    let were : settles ≡ true → MayCount how unit s t told c.args.links.now = λ is.
    subst (λ (one : Relinking). MayCount one unit s t told c.args.links.now) (sym relinking)
    (clean_before unit (values_of c.args.globals.now) s t c.args.moment.0 command c.args.links.now c.in_default.ensures.run
    c.requires.running.linked c.requires.running.order.sound refl c.requires.may.possible told
    (c.in_default.ensures.only c.clear.ensures.items) (sym c.settles_after-settles.ensures.value ∙ is)) in
    let cost = c.settle_if.ensures.cost begun s seats were in
    let steps = ap₂ (λ b r. steps_if b (relinks_all how) unit begun s r) same c.in_default.ensures.run
    ∙ ap (λ b. steps_if (has_change command && is_started now) b unit begun s now) renews in
    let few = c.in_default.ensures.few c.clear.ensures.items in
    let as_many = ap (λ slots. length (written_directly command slots)) c.settle_if.ensures.told in
    on_any c.settle_if.result (omega (arith, cost, steps, few, as_many, c.settles_after-settles.ensures.cost))
