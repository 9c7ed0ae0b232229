use Rattle.std.proofs.Common.{◌≡◌, ◌∙◌, ◌+◌, ◌≤◌, Err, ap, ap₂, subst, sym, ℕ, ℤ}
use Rattle.ld_model.specs.declared.unit.Unit.{Unit}
use Rattle.ld_sharing.specs.Current.{IsCurrentAsOf, written_count}
use Rattle.ld_sharing.specs.StoreView.{Serves, values_of}
use Rattle.ld_sharing.proofs.Currents.{current_now, stays_current}
use Rattle.ld_state.specs.StateView.{IsStateOf, run_of}
use Rattle.ld_lines.specs.declared.command.RunCommand.{RunCommand}
use Rattle.ld_admission.specs.Checks.{admitted}
use Rattle.ld_admission.specs.Refusals.{Refusal}
use Rattle.ld_state.specs.RunState.{RunState}
use Rattle.ld_run.specs.CommandWork.{command_steps, command_steps_of}
use Rattle.ld_run.specs.Linked.{HasLinks}
use Rattle.ld_run.specs.Reply.{reply_to_refusal}
use Rattle.ld_run.specs.Reached.{IsReached, left_by}
use Rattle.ld_run.specs.Running.{IsRunning}
use Rattle.ld_run.specs.RunView.{AnswersCommand, RunView}
use Rattle.ld_run.specs.declared.reply.Reply.TheVariants.{Done}
use Rattle.ld_run.proofs.Answered.{answered_done, answered_refused, keeps_stamp}
use Rattle.ld_run.proofs.run.Run.answer.Goals as goal

-- What the step asks for is what is always so of a run.
pub step-requires-clause-running : goal.step-requires-clause-running
step-requires-clause-running g c =
    subst (λ (unit : Unit). IsRunning unit (run_of c.self.inside.state) c.self.inside.links) (sym c.deref.ensures) c.self.invariant.1

pub step-requires-clause-serves : goal.step-requires-clause-serves
step-requires-clause-serves g c =
    subst (Serves c.args.globals.now) (sym c.deref.ensures)
    (subst (λ (run : RunView). Serves c.args.globals.now run.unit) (sym c.self.view_is) c.requires.serves)

pub step-requires-clause-current : goal.step-requires-clause-current
step-requires-clause-current g c =
    subst (λ (unit : Unit). IsCurrentAsOf unit (run_of c.self.inside.state) c.self.inside.stamp c.args.globals.now) (sym c.deref.ensures)
    (subst (λ (run : RunView). IsCurrentAsOf run.unit (run_of run.state) run.stamp c.args.globals.now) (sym c.self.view_is) c.requires.current)

-- A command that was done leaves the run with the store's values.
pub returns-in-Ok-clause-current : goal.returns-in-Ok-clause-current
returns-in-Ok-clause-current g c =
    let left = run_of c.step.new.state in
    let new = c.step.new.globals in
    subst (λ (stamp : ℕ). IsCurrentAsOf c.self.inside.unit.value left stamp new) (sym c.stamp-self-inside.ensures)
    (subst (λ (unit : Unit). IsCurrentAsOf unit left new.stamp new) c.deref.ensures
    (current_now c.deref.result.now left c.args.globals.now new c.in-Ok.ensures.given))

-- After a refusal the run is current as of its old stamp.
pub returns-clause-current : goal.returns-clause-current
returns-clause-current g c =
    let unit = c.self.inside.unit.value in
    let stamp = c.self.inside.stamp in
    let old = c.args.globals.now in
    let new = c.step.new.globals in
    subst (λ (s : RunState). IsCurrentAsOf unit s stamp new) (sym c.in-Err.ensures.back)
    (stays_current unit (run_of c.self.inside.state) stamp old new
    (subst (λ (run : RunView). Serves old run.unit) (sym c.self.view_is) c.requires.serves) c.step.ensures.stamps
    (subst (λ (run : RunView). IsCurrentAsOf run.unit (run_of run.state) run.stamp old) (sym c.self.view_is) c.requires.current))

-- What the step leaves is a state that runs come to.
pub returns-in-Ok-clause-reached : goal.returns-in-Ok-clause-reached
returns-in-Ok-clause-reached g c =
    let (d, is, state_is, store_is, told, totals_are) = c.in-Ok.ensures.done in
    subst (λ (unit : Unit). IsReached unit (run_of c.step.new.state)) c.deref.ensures
    (subst (IsReached c.deref.result.now) (sym state_is)
    (left_by (run_of c.self.inside.state) (values_of c.args.globals.now) c.args.moment.0 c.args.command.now d
    (subst (λ (unit : Unit). IsReached unit (run_of c.self.inside.state)) (sym c.deref.ensures) c.self.invariant.3) is))

pub returns-clause-reached : goal.returns-clause-reached
returns-clause-reached g c =
    subst (IsReached c.self.inside.unit.value) (sym c.in-Err.ensures.back) c.self.invariant.3

-- And it stays so.
pub invariant_of-self : goal.invariant_of-self
invariant_of-self g c = (
  subst (λ (unit : Unit). IsStateOf unit c.step.new.state) c.deref.ensures c.step.ensures.own,
  subst (λ (unit : Unit). IsRunning unit (run_of c.step.new.state) c.step.new.links) c.deref.ensures c.step.ensures.running,
  c.step.ensures.no_savepoint,
  returns-in-Ok-clause-reached g c,
)

pub invariant_of-self-2 : goal.invariant_of-self-2
invariant_of-self-2 g c = (
  subst (λ (unit : Unit). IsStateOf unit c.step.new.state) c.deref.ensures c.step.ensures.own,
  subst (λ (unit : Unit). IsRunning unit (run_of c.step.new.state) c.step.new.links) c.deref.ensures c.step.ensures.running,
  c.step.ensures.no_savepoint,
  returns-clause-reached g c,
)

pub returns-in-Ok-clause-answers : goal.returns-in-Ok-clause-answers
returns-in-Ok-clause-answers g c =
    let moment = c.args.moment.0 in
    let asked = c.args.command.now in
    let reply = Done c.in-Ok.totals in
    let text = c.step.new.out.bytes in
    let new = run_of c.step.new.state in
    let store = values_of c.args.globals.now in
    let left = values_of c.step.new.globals in
    let (d, is, state_is, store_is, told, totals_are) = c.in-Ok.ensures.done in
    subst (λ (run : RunView). AnswersCommand run.unit (run_of run.state) store moment asked reply text new left) c.self.view_is
    (subst (λ (unit : Unit). AnswersCommand unit (run_of c.self.inside.state) store moment asked reply text new left) c.deref.ensures
    (answered_done c.deref.result.now (run_of c.self.inside.state) store moment asked reply text new left d is
    (ap Done totals_are) state_is store_is told))

pub returns-clause-answers : goal.returns-clause-answers
returns-clause-answers g c =
    let moment = c.args.moment.0 in
    let asked = c.args.command.now in
    let reply = c.refused.result in
    let text = c.tell_refusal.new.out.bytes in
    let new = run_of c.step.new.state in
    let store = values_of c.args.globals.now in
    let left = values_of c.step.new.globals in
    subst (λ (run : RunView). AnswersCommand run.unit (run_of run.state) store moment asked reply text new left) c.self.view_is
    (subst (λ (unit : Unit). AnswersCommand unit (run_of c.self.inside.state) store moment asked reply text new left) c.deref.ensures
    (answered_refused c.deref.result.now (run_of c.self.inside.state) store moment asked reply text new left c.in-Err.refusal
    c.in-Err.ensures.refused c.refused.ensures.value c.in-Err.ensures.back c.in-Err.ensures.untouched c.tell_refusal.ensures.text))

-- What a check refuses is refused by the step.
checks-inside : {unit view : Unit} {s t : RunState} (moment : ℤ) (asked : RunCommand) (refusal : Refusal) → view ≡ unit → t ≡ s
    → admitted view t moment asked ≡ Err refusal → admitted unit s moment asked ≡ Err refusal
checks-inside moment asked refusal same_unit same_state is = sym (ap₂ (λ u r. admitted u r moment asked) same_unit same_state) ∙ is

pub returns-in-Ok-clause-checked : goal.returns-in-Ok-clause-checked
returns-in-Ok-clause-checked g c refusal is other =
    let run = sym c.self.view_is in
    absurd (c.in-Ok.ensures.checked refusal
    (checks-inside c.args.moment.0 c.args.command.now refusal (ap (λ (r : RunView). r.unit) run ∙ sym c.deref.ensures) (ap (λ (r : RunView). run_of r.state) run) is) other)

pub returns-clause-checked : goal.returns-clause-checked
returns-clause-checked g c refusal is other =
    let run = sym c.self.view_is in
    c.refused.ensures.value ∙ ap reply_to_refusal (c.in-Err.ensures.checked refusal
    (checks-inside c.args.moment.0 c.args.command.now refusal (ap (λ (r : RunView). r.unit) run ∙ sym c.deref.ensures) (ap (λ (r : RunView). run_of r.state) run) is) other)

-- The links are those of the run, whatever is answered.
pub returns-in-Ok-clause-linked : goal.returns-in-Ok-clause-linked
returns-in-Ok-clause-linked g c =
    subst (λ (unit : Unit). HasLinks unit (run_of c.step.new.state) c.step.new.links) c.deref.ensures c.step.ensures.running.linked

pub returns-clause-linked : goal.returns-clause-linked
returns-clause-linked g c =
    subst (λ (unit : Unit). HasLinks unit (run_of c.step.new.state) c.step.new.links) c.deref.ensures c.step.ensures.running.linked

-- ---- its stamp, and what it takes

pub returns-in-Ok-clause-stamp : goal.returns-in-Ok-clause-stamp
returns-in-Ok-clause-stamp g c = c.stamp-self-inside.ensures

pub returns-clause-stamp : goal.returns-clause-stamp
returns-clause-stamp g c =
    keeps_stamp c.refused.result c.args.self.now.stamp c.step.new.globals.stamp c.self.inside.stamp c.refused.ensures.not_done
    (ap (λ (run : RunView). run.stamp) c.self.view_is)

pub returns-in-Ok-clause-cost : goal.returns-in-Ok-clause-cost
returns-in-Ok-clause-cost g c =
    subst (λ (run : RunView). c.step.new.steps ≤ c.args.steps.now + command_steps run c.args.globals.now c.args.moment.0 c.args.command.now) c.self.view_is
    (subst (λ (unit : Unit). c.step.new.steps ≤ c.args.steps.now + command_steps_of unit (run_of c.self.inside.state) (values_of c.args.globals.now)
    (written_count c.args.globals.now c.self.inside.stamp) c.args.moment.0 c.args.command.now) c.deref.ensures c.step.ensures.cost)

pub returns-clause-cost : goal.returns-clause-cost
returns-clause-cost g c =
    subst (λ (run : RunView). c.step.new.steps ≤ c.args.steps.now + command_steps run c.args.globals.now c.args.moment.0 c.args.command.now) c.self.view_is
    (subst (λ (unit : Unit). c.step.new.steps ≤ c.args.steps.now + command_steps_of unit (run_of c.self.inside.state) (values_of c.args.globals.now)
    (written_count c.args.globals.now c.self.inside.stamp) c.args.moment.0 c.args.command.now) c.deref.ensures c.step.ensures.cost)
