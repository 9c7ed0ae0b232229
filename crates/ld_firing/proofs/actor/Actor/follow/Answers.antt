use Rattle.ld_state.proofs.Written.{on_ok}
use Rattle.ld_firing.proofs.Costing.{follow_costs}
use Rattle.ld_firing.proofs.Progressing.{followed}
use Rattle.ld_firing.proofs.actor.Actor.follow.Goals as goal

pub returns-clause-does : goal.returns-clause-does
returns-clause-does g c =
    on_ok c.do_notices.result c.do_notices.ensures.does (λ does.
    followed c.args.self.now.owner c.args.follows.now c.in-Some.follows c.as_slice.result.now c.as_slice-2.result.now c.in-Some.is
    c.as_slice.ensures c.as_slice-2.ensures c.in_ok-do_changes.ensures.does does)

pub returns-clause-cost : goal.returns-clause-cost
returns-clause-cost g c =
    follow_costs c.args.self.now.unit.now c.args.state.now c.do_changes.new.state c.args.self.now.owner c.args.follows.now
    c.in-Some.follows c.as_slice.result.now c.as_slice-2.result.now c.args.steps.now c.do_changes.new.steps c.do_notices.new.steps
    c.do_changes.ensures.rows c.in-Some.is c.as_slice.ensures c.as_slice-2.ensures c.do_changes.ensures.cost
    c.do_notices.ensures.cost
