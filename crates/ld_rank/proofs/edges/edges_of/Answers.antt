use Rattle.std.proofs.Common.{◌≡◌, ℕ, filter, length, map, ap, ◌∙◌, arith}
use Rattle.std.proofs.lemmas.List.{length-map}
use Rattle.std.specs.List.{range_with_len}
use Rattle.ld_base.specs.Numbers.{numbers_below}
use Rattle.ld_names.specs.Rules.{rules_of}
use Rattle.ld_layers.proofs.Ranges.{rows_more}
use Rattle.ld_rank.specs.Alone.{feeds_between}
use Rattle.ld_rank.specs.Rules.{IsGraphOf}
use Rattle.ld_rank.proofs.Deciding.{graph_of}
use Rattle.ld_rank.proofs.edges.edges_of.Goals as goal

pub loop-rule-preserved : goal.loop-rule-preserved
loop-rule-preserved c =
    let row = λ (a : ℕ). filter (λ b. feeds_between c.args.unit.now a b) (numbers_below (length (rules_of c.args.unit.now))) in
    rows_more (λ next. next.items) row c.loop-rule.rule c.loop-rule.edges.items c.push.new.self.items c.in_ok-fed_by.field-0 c.loop-rule.invariant c.in_ok-push.ensures.items c.in_ok-fed_by.ensures

pub returns : goal.returns
returns c =
    let unit = c.args.unit.now in
    let row = λ (a : ℕ). filter (λ b. feeds_between unit a b) (numbers_below (length (rules_of unit))) in
    let all : c.loop-rule.rule ≡ length (rules_of unit) =
    omega (arith, c.loop-rule-test.false, c.loop-rule.auto.rule-end, ap length c.rules-count.ensures.rules) in
    let graph : IsGraphOf unit (map (λ next. next.items) c.loop-rule.edges.items) =
    graph_of unit (map (λ next. next.items) c.loop-rule.edges.items) (c.loop-rule.invariant ∙ ap (λ n. map row (range_with_len 0 n)) all) in
    record {
      graph = graph;
      few = omega (arith, graph.each, ap length c.rules-count.ensures.rules, c.rules-count.ensures.few, length-map c.loop-rule.edges.items (λ next. next.items));
    }
