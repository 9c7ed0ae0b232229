use Rattle.std.proofs.Common.{List, filter, length, slice_get, sym, ap, ◌∙◌}
use Rattle.std.proofs.lemmas.Option.{slice_get_past}
use Rattle.ld_base.specs.Numbers.{numbers_below}
use Rattle.ld_names.specs.Rules.{rules_of}
use Rattle.ld_names.specs.declared.rule.Rule.{Rule}
use Rattle.ld_rank.specs.Rules.{is_named}
use Rattle.ld_rank.proofs.Rows.{feeds_none, numbers_named, rule_there}
use Rattle.ld_rank.proofs.edges.fed_by.Goals as goal

pub table_of-requires-clause-at : goal.table_of-requires-clause-at
table_of-requires-clause-at c =
    let found = c.in-Some.ensures.lookup in
    rule_there c.args.unit.now c.rules.result.now c.args.number c.in-Some.rule.now c.rules.ensures.rules found.3.0 found.1

pub returns-in_default : goal.returns-in_default
returns-in_default c =
    let past = ap (λ (all : List Rule). slice_get all c.args.number) (sym c.rules.ensures.rules) ∙ slice_get_past c.rules.result.now c.args.number c.in_default.ensures.lookup.3 in
    c.new.ensures.items ∙ sym (feeds_none c.args.unit.now c.args.number (numbers_below (length (rules_of c.args.unit.now))) past)

pub returns : goal.returns
returns c =
    c.in_ok-fed.ensures
    ∙ ap (λ table. filter (λ b. is_named table b) (numbers_below (length table))) c.deref.ensures.value
    ∙ numbers_named c.args.unit.now c.args.number c.in_ok-table.table.items c.in_ok-table.ensures
