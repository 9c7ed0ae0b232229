use Rattle.std.proofs.Common.{◌≡◌, filter, length, map}
use Rattle.std.specs.List.{range_with_len}
use Rattle.ld_base.specs.Numbers.{numbers_below}
use Rattle.ld_names.specs.Rules.{rules_of}
use Rattle.ld_rank.specs.Alone.{feeds_between}
use Rattle.ld_rank.proofs.edges.edges_of.Given as goal

abbrev pub invariant-loop-rule : goal.invariant-loop-rule
invariant-loop-rule l =
    map (λ next. next.items) l.edges.items ≡ map (λ a. filter (λ b. feeds_between l.unit a b) (numbers_below (length (rules_of l.unit)))) (range_with_len 0 l.rule)
