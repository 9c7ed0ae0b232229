use Rattle.std.proofs.Common.{◌∷◌, [], ap, subst, sym, ◌∙◌}
use Rattle.ld_expr.specs.Seen.{says_yes}
use Rattle.ld_rules.specs.SiteLooks.{rule_looks}
use Rattle.ld_rules.specs.SiteTests.{site_mark}
use Rattle.ld_rules.specs.SiteView.{site_of}
use Rattle.ld_state.specs.RunState.{seen_in}
use Rattle.ld_state.specs.StateView.{run_of}
use Rattle.ld_settling.specs.Gathering.{FallsShort, Gathers}
use Rattle.ld_settling.proofs.Gathered.{gathers_both, short_then}
use Rattle.ld_settling.proofs.Latching.{looks_latched, looks_open, mark_seen, short_of_mark}
use Rattle.ld_settling.proofs.Reading.{on_err, on_ok, so_err}
use Rattle.ld_settling.proofs.reads.read_site.Goals as goal

pub returns-in_err-put-clause-short : goal.returns-in_err-put-clause-short
returns-in_err-put-clause-short g c =
    let unit = c.args.reader.now.unit.now in
    let run = run_of c.args.reader.now.state.now in
    so_err c.from_residual.result
    (short_of_mark unit run (site_of c.args.site) c.args.rule c.args.list.now
    (sym c.says_for_good.ensures ∙ c.if-not-says_for_good.false) c.in_err-put.ensures.short)

pub returns-then-says_yes-clause-gathers : goal.returns-then-says_yes-clause-gathers
returns-then-says_yes-clause-gathers g c =
    let unit = c.args.reader.now.unit.now in
    let state = c.args.reader.now.state.now in
    let run = run_of state in
    let site = site_of c.args.site in
    let good = sym c.says_for_good.ensures ∙ c.if-not-says_for_good.false in
    let marked = ap says_yes (sym (mark_seen unit state site)) ∙ sym c.says_yes.ensures.value ∙ c.if-says_yes.true in
    subst (λ cells. Gathers unit run cells c.args.list.now c.put.new.list)
    (sym (looks_latched unit (seen_in unit run) site c.args.rule good marked)) c.in_ok-put.ensures.gathers

pub returns-clause-gathers : goal.returns-clause-gathers
returns-clause-gathers g c =
    let unit = c.args.reader.now.unit.now in
    let state = c.args.reader.now.state.now in
    let run = run_of state in
    let site = site_of c.args.site in
    let good = sym c.says_for_good.ensures ∙ c.if-not-says_for_good.false in
    let unmarked = ap says_yes (sym (mark_seen unit state site)) ∙ sym c.says_yes.ensures.value ∙ c.if-says_yes.false in
    on_ok c.read_rule-2.result
    (λ rest. subst (λ cells. Gathers unit run cells c.args.list.now c.read_rule-2.new.list)
    (sym (looks_open unit (seen_in unit run) site c.args.rule good unmarked))
    (gathers_both unit run c.in_ok-put.ensures.gathers rest))
    c.read_rule-2.ensures.gathers

pub returns-clause-short : goal.returns-clause-short
returns-clause-short g c =
    let unit = c.args.reader.now.unit.now in
    let state = c.args.reader.now.state.now in
    let run = run_of state in
    let site = site_of c.args.site in
    let good = sym c.says_for_good.ensures ∙ c.if-not-says_for_good.false in
    let unmarked = ap says_yes (sym (mark_seen unit state site)) ∙ sym c.says_yes.ensures.value ∙ c.if-says_yes.false in
    on_err c.read_rule-2.result
    (λ rest. subst (λ cells. FallsShort unit run cells c.args.list.now)
    (sym (looks_open unit (seen_in unit run) site c.args.rule good unmarked))
    (short_then unit run (site_mark site ∷ []) (rule_looks unit (seen_in unit run) site.owner c.args.rule)
    c.args.list.now c.put.new.list c.in_ok-put.ensures.gathers rest))
    c.read_rule-2.ensures.short
