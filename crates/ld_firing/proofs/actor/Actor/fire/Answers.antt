use Rattle.std.proofs.Common.{Some, fold}
use Rattle.ld_expr.specs.Seen.{mark_cell}
use Rattle.ld_value.specs.Datum.{truth_datum}
use Rattle.ld_firing.specs.Actions.{actions_of, do_action, opened_by, with_opening, with_write}
use Rattle.ld_firing.proofs.Progressing.{does_then}
use Rattle.ld_firing.proofs.actor.Actor.fire.Goals as goal

pub returns-clause-does : goal.returns-clause-does
returns-clause-does g c =
    let unit = c.args.self.now.unit.now in
    let owner = c.args.self.now.owner in
    does_then (λ doing. with_opening (with_write doing (mark_cell c.args.number.0 owner) (Some (truth_datum c.args.verdict))) (opened_by unit c.args.rule))
    (λ doing. fold (do_action unit owner) doing (actions_of unit c.args.rule c.args.verdict))
    (does_then (λ doing. with_write doing (mark_cell c.args.number.0 owner) (Some (truth_datum c.args.verdict)))
    (λ doing. with_opening doing (opened_by unit c.args.rule))
    (c.in_ok-write.ensures.does (record { rejected = 0; sent = 0 }))
    (c.in_ok-open.ensures.does (record { rejected = 0; sent = 0 })))
    c.in_ok-do_rule.ensures.does
