use Rattle.std.proofs.Common.{◌∙◌, ℕ, ap, arith, false, subst, sym}
use Rattle.ld_model.specs.declared.unit.Unit.{Unit}
use Rattle.ld_roles.specs.declared.limit.TheConstants.{SEATS}
use Rattle.ld_sharing.specs.Current.{IsCurrentAsOf}
use Rattle.ld_sharing.specs.StoreView.{Serves, shared_count, values_of}
use Rattle.ld_state.specs.RunState.{RunState, made_at}
use Rattle.ld_state.specs.StateView.{IsStateOf, run_of}
use Rattle.ld_run.specs.Reached.{IsReached, made}
use Rattle.ld_run.specs.Running.{IsInOrder}
use Rattle.ld_run.proofs.CurrentRuns.{made_current}
use Rattle.ld_run.proofs.LinkedRuns.{made_links}
use Rattle.ld_run.proofs.run.Run.new.Goals as goal

pub begin-requires-clause-serves : goal.begin-requires-clause-serves
begin-requires-clause-serves g c = subst (Serves c.args.globals.now) (sym c.deref.ensures) c.requires.serves

pub returns-clause-state : goal.returns-clause-state
returns-clause-state g c =
    c.in_ok-state.ensures.state
    ∙ ap (λ (unit : Unit). made_at SEATS unit (values_of c.args.globals.now) c.args.moment.0) c.deref.ensures

-- A run that is made is one that runs come to.
pub returns-clause-reached : goal.returns-clause-reached
returns-clause-reached g c =
    subst (IsReached c.args.unit.value) (sym (returns-clause-state g c))
    (made SEATS (values_of c.args.globals.now) c.args.moment.0)

-- It has the store's values as of now.
pub returns-clause-current : goal.returns-clause-current
returns-clause-current g c =
    let unit = c.args.unit.value in
    let store = c.args.globals.now in
    let order = subst (λ (unit : Unit). IsInOrder unit (run_of c.in_ok-state.state)) c.deref.ensures c.in_ok-state.ensures.order in
    subst (λ (stamp : ℕ). IsCurrentAsOf unit (run_of c.in_ok-state.state) stamp store) (sym c.stamp-stamp.ensures)
    (subst (λ (s : RunState). IsCurrentAsOf unit s store.stamp store) (sym (returns-clause-state g c))
    (made_current unit order.sound.valid store c.requires.serves c.args.moment.0 SEATS))

-- It is not started, and keeps no edge.
pub returns-clause-linked : goal.returns-clause-linked
returns-clause-linked g c =
    made_links c.args.unit.value (run_of c.in_ok-state.state) c.new-links.result (values_of c.args.globals.now) c.args.moment.0
    c.new-links.ensures.bare (returns-clause-state g c)

pub invariant_of-result : goal.invariant_of-result
invariant_of-result g c = (
  subst (λ (unit : Unit). IsStateOf unit c.in_ok-state.state) c.deref.ensures c.in_ok-state.ensures.own,
  record {
    order = subst (λ (unit : Unit). IsInOrder unit (run_of c.in_ok-state.state)) c.deref.ensures c.in_ok-state.ensures.order;
    linked = returns-clause-linked g c;
  },
  c.in_ok-state.ensures.no_savepoint,
  returns-clause-reached g c,
)

pub returns-clause-cost : goal.returns-clause-cost
returns-clause-cost g c = omega (arith, c.begin.ensures.cost, ap (λ (unit : Unit). shared_count unit false) c.deref.ensures)
