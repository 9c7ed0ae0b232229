use Rattle.std.proofs.Common.{◌∙◌, ap, sym, option_copied}
use Rattle.ld_expr.specs.Lookup.{list_from}
use Rattle.ld_model.specs.declared.activity.Activity.{Activity}
use Rattle.ld_model.specs.declared.method.Act.{Act}
use Rattle.ld_model.specs.declared.method.Play.{Play}
use Rattle.ld_model.specs.declared.condition.Condition.{Condition}
use Rattle.ld_firing.specs.Actions.{actions_if, actions_of, branch_of, do_action}
use Rattle.ld_state.proofs.Written.{on_ok}
use Rattle.ld_firing.proofs.Progressing.{does_listed}
use Rattle.ld_firing.proofs.actor.Actor.do_rule.Goals as goal

pub returns-in-Some-clause-does : goal.returns-in-Some-clause-does
returns-in-Some-clause-does g c =
    let unit = c.args.self.now.unit.now in
    on_ok c.follow.result c.follow.ensures.does (λ does.
    does_listed (do_action unit c.args.self.now.owner) (actions_if c.in-Some.activity.now.on_completion) (actions_of unit c.args.rule c.args.verdict)
    (sym (ap (λ rule. actions_of unit rule c.args.verdict) c.in-CompletesActivity.is
    ∙ ap (list_from (λ (one : Activity). actions_if one.on_completion)) (sym c.get.ensures ∙ ap option_copied c.in-Some.is))) does)

pub returns-in-Some-act_at-clause-does : goal.returns-in-Some-act_at-clause-does
returns-in-Some-act_at-clause-does g c =
    let unit = c.args.self.now.unit.now in
    on_ok c.follow-in-CompletesAct.result c.follow-in-CompletesAct.ensures.does (λ does.
    does_listed (do_action unit c.args.self.now.owner) (actions_if c.in-Some-act_at.act.now.on_completion) (actions_of unit c.args.rule c.args.verdict)
    (sym (ap (λ rule. actions_of unit rule c.args.verdict) c.in-CompletesAct.is
    ∙ ap (list_from (λ (one : Act). actions_if one.on_completion)) (sym c.act_at.ensures ∙ ap option_copied c.in-Some-act_at.is))) does)

pub returns-in-Some-get-clause-does : goal.returns-in-Some-get-clause-does
returns-in-Some-get-clause-does g c =
    let unit = c.args.self.now.unit.now in
    on_ok c.follow-in-CompletesPlay.result c.follow-in-CompletesPlay.ensures.does (λ does.
    does_listed (do_action unit c.args.self.now.owner) (actions_if c.in-Some-get.play.now.on_completion) (actions_of unit c.args.rule c.args.verdict)
    (sym (ap (λ rule. actions_of unit rule c.args.verdict) c.in-CompletesPlay.is
    ∙ ap (list_from (λ (one : Play). actions_if one.on_completion)) (sym c.get-in-CompletesPlay.ensures ∙ ap option_copied c.in-Some-get.is))) does)

pub returns-in-Some-get-2-clause-does : goal.returns-in-Some-get-2-clause-does
returns-in-Some-get-2-clause-does g c =
    let unit = c.args.self.now.unit.now in
    on_ok c.do_actions.result c.do_actions.ensures.does (λ does.
    does_listed (do_action unit c.args.self.now.owner) (c.branch_of-actions.result.now) (actions_of unit c.args.rule c.args.verdict)
    (c.branch_of-actions.ensures ∙ sym (ap (λ rule. actions_of unit rule c.args.verdict) c.in-JudgesCondition.is
    ∙ ap (list_from (λ (one : Condition). branch_of c.args.verdict one)) (sym c.get-in-JudgesCondition.ensures ∙ ap option_copied c.in-Some-get-2.is))) does)

pub returns-in-CompletesUnit-clause-does : goal.returns-in-CompletesUnit-clause-does
returns-in-CompletesUnit-clause-does g c =
    let unit = c.args.self.now.unit.now in
    on_ok c.follow-in-CompletesUnit.result c.follow-in-CompletesUnit.ensures.does (λ does.
    does_listed (do_action unit c.args.self.now.owner) (actions_if unit.method.on_completion) (actions_of unit c.args.rule c.args.verdict)
    (sym (ap (λ rule. actions_of unit rule c.args.verdict) c.in-CompletesUnit.is)) does)
