use Rattle.std.proofs.Common.{◌≡◌, filter}
use Rattle.std.specs.List.{range_with_len}
use Rattle.ld_rank.specs.Rules.{is_named}
use Rattle.ld_rank.proofs.edges.numbers_of.Given as goal

abbrev pub invariant-loop-rule : goal.invariant-loop-rule
invariant-loop-rule l = l.numbers.items ≡ filter (λ b. is_named l.fed b) (range_with_len 0 l.rule)
