use Rattle.std.proofs.Common.{◌≡◌, ◌∙◌, ◌+◌, ◌++◌, ◌≤◌, ap, arith, is_some, refl, subst, sym}
use Rattle.std.proofs.lemmas.List.{append-nil}
use Rattle.ld_state.specs.StateView.{run_of}
use Rattle.ld_firing.specs.RunSystem.{run_system}
use Rattle.ld_run.specs.CleanBefore.{MayCount}
use Rattle.ld_run.specs.CommandWork.{restoring, slots_if, steps_if}
use Rattle.ld_run.specs.Linked.{MayRelink, relinks_all}
use Rattle.ld_run.specs.RunStep.{settled}
use Rattle.ld_firing.specs.SettledView.{settlement_of}
use Rattle.ld_state.proofs.Elements.{different}
use Rattle.ld_firing.proofs.LawsOpenings.{settling_leaves_start}
use Rattle.ld_settling.proofs.CleanLinks.{run_follows_self, run_follows_then}
use Rattle.ld_run.proofs.FittingRuns.{settling_fits}
use Rattle.ld_run.proofs.GivenRuns.{settles_not}
use Rattle.ld_run.proofs.NoticesTold.{settling_told}
use Rattle.ld_cascade.proofs.Spending.{relinked_less}
use Rattle.ld_run.proofs.Stirring.{settled_cost}
use Rattle.ld_run.proofs.settling.settle_if.Goals as goal

pub returns-then-not-settles-clause-settled : goal.returns-then-not-settles-clause-settled
returns-then-not-settles-clause-settled g c =
    ap (λ b. settled b c.args.unit.now (run_of c.args.state.now)) c.if-not-settles.true

-- The slots are those of the scratch.
pub relink-requires-clause-told : goal.relink-requires-clause-told
relink-requires-clause-told g c =
    subst (λ slots. MayRelink c.args.how c.args.unit.now (run_of c.args.state.now) slots c.args.links.now) (sym c.deref.ensures.value)
    (c.requires.told c.if-not-settles.false)

-- A run that has settled is started and in order, and its links are clean.
pub returns-in-Ok-clause-running : goal.returns-in-Ok-clause-running
returns-in-Ok-clause-running g c =
    let unit = c.args.unit.now in
    let s = run_of c.args.state.now in
    let left = settlement_of c.in-Ok.totals (run_of c.settle.new.state) in
    let order = c.requires.order in
    let still = settling_leaves_start unit s left c.in-Ok.ensures.settled in
    record {
      order = record {
        sound = c.in-Ok.ensures.sound;
        fitting = settling_fits unit s left c.in-Ok.ensures.settled order.fitting;
        notices = settling_told unit s left order.sound order.notices c.in-Ok.ensures.settled;
      };
      linked = (
        λ started. c.in-Ok.ensures.clean,
        λ closed. different (sym (ap is_some still ∙ c.requires.started c.if-not-settles.false) ∙ closed),
      );
    }

pub returns-then-not-settles-clause-running : goal.returns-then-not-settles-clause-running
returns-then-not-settles-clause-running g c =
    record { order = c.requires.order; linked = c.requires.linked c.if-not-settles.true }

pub returns-then-not-settles-clause-follows : goal.returns-then-not-settles-clause-follows
returns-then-not-settles-clause-follows g c _ = run_follows_self

pub returns-in-Ok-clause-follows : goal.returns-in-Ok-clause-follows
returns-in-Ok-clause-follows g c plain = run_follows_then (c.relink.ensures.follows plain) c.settle.ensures.follows

pub returns-in-Err-settle-clause-follows : goal.returns-in-Err-settle-clause-follows
returns-in-Err-settle-clause-follows g c plain = run_follows_then (c.relink.ensures.follows plain) c.settle.ensures.follows

pub returns-then-not-settles-clause-written : goal.returns-then-not-settles-clause-written
returns-then-not-settles-clause-written g c = settles_not c.args.unit.now (run_of c.args.state.now) c.args.scratch.now.written.items

-- ---- what it changes, and what it takes

pub returns-then-not-settles-clause-fired : goal.returns-then-not-settles-clause-fired
returns-then-not-settles-clause-fired g c =
    let written = c.args.scratch.now.written.items in
    subst (λ b. written ≡ written ++ slots_if b c.args.unit.now (run_of c.args.state.now)) (sym c.if-not-settles.true) (sym (append-nil written))

pub returns-in-Ok-clause-fired : goal.returns-in-Ok-clause-fired
returns-in-Ok-clause-fired g c =
    subst (λ b. c.settle.new.changed.items ≡ c.args.scratch.now.written.items ++ slots_if b c.args.unit.now (run_of c.args.state.now))
    (sym c.if-not-settles.false) c.in-Ok.ensures.changed

pub returns-in-Ok-clause-cost : goal.returns-in-Ok-clause-cost
returns-in-Ok-clause-cost g c begun before seats may =
    let unit = c.args.unit.now in
    let s = run_of c.args.state.now in
    let now = c.settle.new.links in
    let told = subst (λ slots. MayCount c.args.how unit before s slots c.args.links.now) (sym c.deref.ensures.value) (may c.if-not-settles.false) in
    subst (λ b. c.settle.new.steps + restoring unit begun now ≤ c.args.steps.now + restoring unit begun c.args.links.now + steps_if b (relinks_all c.args.how) unit begun before s)
    (sym c.if-not-settles.false)
    (settled_cost unit s begun before (relinks_all c.args.how) c.args.links.now c.relink.new.links now c.args.steps.now c.settle.new.steps
    c.requires.order.sound refl seats c.settle.ensures.spends (c.relink.ensures.dirties before told) c.relink.ensures.relinked)

pub returns-in-Err-settle-clause-cost : goal.returns-in-Err-settle-clause-cost
returns-in-Err-settle-clause-cost g c begun before seats may =
    let unit = c.args.unit.now in
    let s = run_of c.args.state.now in
    let now = c.settle.new.links in
    let told = subst (λ slots. MayCount c.args.how unit before s slots c.args.links.now) (sym c.deref.ensures.value) (may c.if-not-settles.false) in
    subst (λ b. c.settle.new.steps + restoring unit begun now ≤ c.args.steps.now + restoring unit begun c.args.links.now + steps_if b (relinks_all c.args.how) unit begun before s)
    (sym c.if-not-settles.false)
    (settled_cost unit s begun before (relinks_all c.args.how) c.args.links.now c.relink.new.links now c.args.steps.now c.settle.new.steps
    c.requires.order.sound refl seats c.settle.ensures.spends (c.relink.ensures.dirties before told) c.relink.ensures.relinked)

-- Where there is no room for the links, they are not asked what they read.
pub returns-in-Err-clause-cost : goal.returns-in-Err-clause-cost
returns-in-Err-clause-cost g c begun before seats may =
    omega (arith, relinked_less (run_system c.args.unit.now) begun c.relink.new.links.wiring.relinked c.args.links.now.wiring.relinked c.relink.ensures.relinked)

pub returns-then-not-settles-clause-cost : goal.returns-then-not-settles-clause-cost
returns-then-not-settles-clause-cost g c begun before seats may = omega arith
