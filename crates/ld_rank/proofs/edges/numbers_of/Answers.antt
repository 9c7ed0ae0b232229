use Rattle.std.proofs.Common.{[], ◌∷◌, ◌++◌, cond, sym, ap₂, ◌∙◌}
use Rattle.ld_layers.proofs.Ranges.{filter_range_more}
use Rattle.ld_rank.specs.Rules.{is_named}
use Rattle.ld_rank.proofs.Rows.{named_read}
use Rattle.ld_rank.proofs.edges.numbers_of.Goals as goal

pub loop-rule-preserved : goal.loop-rule-preserved
loop-rule-preserved c =
    let rule = c.loop-rule.rule in
    c.in_ok-push_if.ensures
    ∙ ap₂ (λ xs b. xs ++ cond b (rule ∷ []) []) c.loop-rule.invariant (sym (named_read c.args.fed.now rule c.loop-rule-test.true))
    ∙ sym (filter_range_more (λ b. is_named c.args.fed.now b) rule)
