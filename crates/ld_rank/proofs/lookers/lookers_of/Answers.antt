use Rattle.std.proofs.Common.{◌≤◌, ap, length, ◌∙◌, arith}
use Rattle.ld_names.specs.Rules.{rules_of}
use Rattle.ld_rank.specs.Lookers.{is_at, rule_looks_at}
use Rattle.ld_rank.proofs.Noted.{all_rules, one_more_rule}
use Rattle.ld_rank.proofs.lookers.lookers_of.Goals as goal

pub loop-number-preserved : goal.loop-number-preserved
loop-number-preserved c = λ cell rule fed.
    one_more_rule (λ number. rule_looks_at c.args.unit.now number cell) c.loop-number.number rule (is_at c.loop-number.lookers cell rule) _
    (c.loop-number.invariant cell rule fed) (c.in_ok-add_rule.ensures cell rule fed)

pub returns : goal.returns
returns c =
    let unit = c.args.unit.now in
    let all : length (rules_of unit) ≤ c.loop-number.number =
    omega (arith, c.loop-number-test.false, ap length c.rules-number-end.ensures.rules) in
    record { exact = λ cell rule fed. c.loop-number.invariant cell rule fed ∙ all_rules unit cell rule c.loop-number.number all }
