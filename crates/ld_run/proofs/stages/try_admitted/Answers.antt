use Rattle.std.proofs.Common.{◌≡◌, ◌∙◌, ◌+◌, ◌≤◌, ap, arith, subst, sym, true}
use Rattle.ld_firing.specs.RunSystem.{IsSoundRun}
use Rattle.ld_settling.specs.RunLinking.{AreCleanLinks}
use Rattle.ld_sharing.specs.Current.{IsCurrentAsOf, written_count}
use Rattle.ld_sharing.specs.Globals.{giving_back}
use Rattle.ld_sharing.specs.StoreView.{values_of}
use Rattle.ld_sharing.proofs.GivingStores.{keeps_on}
use Rattle.ld_state.specs.RunState.{RunState}
use Rattle.ld_state.specs.StateView.{StateView, run_of}
use Rattle.ld_admission.specs.AdmittedView.{admitted_of}
use Rattle.ld_admission.specs.Checks.{is_started}
use Rattle.ld_run.specs.CommandWork.{doing_steps, restoring, telling_steps}
use Rattle.ld_run.specs.Running.{IsInOrder, IsRunning, MayBeDone}
use Rattle.ld_run.specs.RunStep.{done_by}
use Rattle.ld_run.proofs.CommandSums.{restores_none}
use Rattle.ld_run.proofs.LinkedRuns.{renews_none}
use Rattle.ld_run.proofs.StepStages.{undone_is}
use Rattle.ld_run.proofs.stages.try_admitted.Goals as goal

-- A savepoint changes nothing of the run.
pub do_and_tell-requires-clause-running : goal.do_and_tell-requires-clause-running
do_and_tell-requires-clause-running g c =
    subst (λ (s : StateView). IsRunning c.args.unit.now (run_of s) c.begin.new.self) (sym c.mark.ensures) (record {
      order = c.requires.running.order;
      linked = (
        λ started. c.begin.ensures.clean c.args.unit.now (run_of c.args.state.now) (c.requires.running.linked.0 started),
        λ closed. c.begin.ensures.bare (c.requires.running.linked.1 closed),
      );
    })

pub do_and_tell-requires-clause-may : goal.do_and_tell-requires-clause-may
do_and_tell-requires-clause-may g c =
    subst (λ (s : StateView). MayBeDone c.args.unit.now (run_of s) c.args.moment.0 (admitted_of c.args.command.now)) (sym c.mark.ensures)
    c.requires.may

pub do_and_tell-requires-clause-current : goal.do_and_tell-requires-clause-current
do_and_tell-requires-clause-current g c =
    subst (λ (s : StateView). IsCurrentAsOf c.args.unit.now (run_of s) c.args.stamp c.args.globals.now) (sym c.mark.ensures)
    c.requires.current

-- A refusal: the run is as it was at the savepoint.
pub returns-in-Err-clause-refused : goal.returns-in-Err-clause-refused
returns-in-Err-clause-refused g c other =
    let store = values_of c.args.globals.now in
    ap (λ (s : StateView). done_by c.args.unit.now (run_of s) store c.args.moment.0 (admitted_of c.args.command.now)) (sym c.mark.ensures)
    ∙ c.in-Err.ensures.refused other

-- What the state was at the savepoint it is once it was rolled back.
pub take_back-requires-clause-sound : goal.take_back-requires-clause-sound
take_back-requires-clause-sound g c =
    subst (IsSoundRun c.args.unit.now)
    (sym (undone_is c.args.unit.now c.args.state.now c.do_and_tell.new.state c.undo.new.self c.requires.own
    c.do_and_tell.ensures.own (c.do_and_tell.ensures.kept ∙ ap (λ (s : StateView). s.kept) c.mark.ensures) c.undo.ensures.run))
    c.requires.running.order.sound

pub take_back-requires-clause-begun : goal.take_back-requires-clause-begun
take_back-requires-clause-begun g c is =
    let unit = c.args.unit.now in
    let s = run_of c.args.state.now in
    let back = undone_is unit c.args.state.now c.do_and_tell.new.state c.undo.new.self c.requires.own
    c.do_and_tell.ensures.own (c.do_and_tell.ensures.kept ∙ ap (λ (s : StateView). s.kept) c.mark.ensures) c.undo.ensures.run in
    let started : is_started s ≡ true = sym (ap is_started back) ∙ is in
    let plain = renews_none unit s (admitted_of c.args.command.now) c.requires.may.possible started in (
      c.begin.new.self,
      subst (λ t. AreCleanLinks unit t c.begin.new.self) (sym back) (c.begin.ensures.clean unit s (c.requires.running.linked.0 started)),
      c.do_and_tell.ensures.follows plain,
    )

pub returns-in-Err-clause-back : goal.returns-in-Err-clause-back
returns-in-Err-clause-back g c =
    c.take_back.ensures.run
    ∙ undone_is c.args.unit.now c.args.state.now c.do_and_tell.new.state c.undo.new.self c.requires.own
    c.do_and_tell.ensures.own (c.do_and_tell.ensures.kept ∙ ap (λ (s : StateView). s.kept) c.mark.ensures) c.undo.ensures.run

pub returns-in-Err-clause-running : goal.returns-in-Err-clause-running
returns-in-Err-clause-running g c = record {
  order = subst (IsInOrder c.args.unit.now) (sym (returns-in-Err-clause-back g c)) c.requires.running.order;
  linked = c.take_back.ensures.linked;
}

-- The command was done: the run is kept, and the store takes its values.
pub give_back-requires : goal.give_back-requires
give_back-requires g c = record {
  writes = (c.args.unit.now, run_of c.do_and_tell.new.state, c.in-Ok.ensures.writes);
}

pub returns-in-Ok-clause-done : goal.returns-in-Ok-clause-done
returns-in-Ok-clause-done g c =
    let unit = c.args.unit.now in
    let store = values_of c.args.globals.now in
    let left = run_of c.do_and_tell.new.state in
    let (d, is, state_is, store_is, text, totals_are) = c.in-Ok.ensures.done in (
      d,
      ap (λ (s : StateView). done_by unit (run_of s) store c.args.moment.0 (admitted_of c.args.command.now)) (sym c.mark.ensures) ∙ is,
      ap run_of c.keep.ensures.rest ∙ state_is,
      c.give_back.ensures.values unit left c.in-Ok.ensures.writes ∙ ap (giving_back unit left) c.do_and_tell.ensures.values ∙ store_is,
      text,
      totals_are,
    )

pub returns-in-Ok-clause-given : goal.returns-in-Ok-clause-given
returns-in-Ok-clause-given g c =
    let unit = c.args.unit.now in
    let store = values_of c.args.globals.now in
    let left = run_of c.do_and_tell.new.state in
    c.give_back.ensures.values unit left c.in-Ok.ensures.writes ∙ ap (giving_back unit left) c.do_and_tell.ensures.values
    ∙ ap (λ (t : RunState). giving_back unit t store) (sym (ap run_of c.keep.ensures.rest))

pub returns-in-Ok-clause-stamps : goal.returns-in-Ok-clause-stamps
returns-in-Ok-clause-stamps g c =
    keeps_on c.args.globals.now c.do_and_tell.new.globals c.give_back.new.globals c.do_and_tell.ensures.declared
    c.do_and_tell.ensures.stamps c.give_back.ensures.kept

pub returns-in-Ok-clause-running : goal.returns-in-Ok-clause-running
returns-in-Ok-clause-running g c =
    subst (λ (s : StateView). IsRunning c.args.unit.now (run_of s) c.do_and_tell.new.links) (sym c.keep.ensures.rest)
    c.in-Ok.ensures.running

-- ---- what it takes

pub returns-in-Ok-clause-cost : goal.returns-in-Ok-clause-cost
returns-in-Ok-clause-cost g c =
    let unit = c.args.unit.now in
    let store = values_of c.args.globals.now in
    let command = admitted_of c.args.command.now in
    let none = restores_none unit (run_of c.args.state.now) c.begin.new.self c.begin.ensures.relinked in
    let written = written_count c.args.globals.now c.args.stamp in
    let now = run_of c.args.state.now in
    let cost : c.do_and_tell.new.steps + restoring unit now c.do_and_tell.new.links
    ≤ c.args.steps.now + restoring unit now c.begin.new.self + doing_steps unit now store written c.args.moment.0 command
    + telling_steps unit (done_by unit now store c.args.moment.0 command) =
    subst (λ (s : StateView). c.do_and_tell.new.steps + restoring unit (run_of s) c.do_and_tell.new.links
    ≤ c.args.steps.now + restoring unit (run_of s) c.begin.new.self + doing_steps unit (run_of s) store written c.args.moment.0 command
    + telling_steps unit (done_by unit (run_of s) store c.args.moment.0 command))
    c.mark.ensures c.do_and_tell.ensures.cost in
    omega (arith, cost, none)

pub returns-in-Err-clause-cost : goal.returns-in-Err-clause-cost
returns-in-Err-clause-cost g c =
    let unit = c.args.unit.now in
    let store = values_of c.args.globals.now in
    let command = admitted_of c.args.command.now in
    let none = restores_none unit (run_of c.args.state.now) c.begin.new.self c.begin.ensures.relinked in
    let written = written_count c.args.globals.now c.args.stamp in
    let now = run_of c.args.state.now in
    let cost : c.do_and_tell.new.steps + restoring unit now c.do_and_tell.new.links
    ≤ c.args.steps.now + restoring unit now c.begin.new.self + doing_steps unit now store written c.args.moment.0 command
    + telling_steps unit (done_by unit now store c.args.moment.0 command) =
    subst (λ (s : StateView). c.do_and_tell.new.steps + restoring unit (run_of s) c.do_and_tell.new.links
    ≤ c.args.steps.now + restoring unit (run_of s) c.begin.new.self + doing_steps unit (run_of s) store written c.args.moment.0 command
    + telling_steps unit (done_by unit (run_of s) store c.args.moment.0 command))
    c.mark.ensures c.do_and_tell.ensures.cost in
    let back = undone_is unit c.args.state.now c.do_and_tell.new.state c.undo.new.self c.requires.own
    c.do_and_tell.ensures.own (c.do_and_tell.ensures.kept ∙ ap (λ (s : StateView). s.kept) c.mark.ensures) c.undo.ensures.run in
    let again = ap (λ (s : RunState). restoring unit s c.do_and_tell.new.links) back in
    omega (arith, cost, none, c.take_back.ensures.cost, again)
