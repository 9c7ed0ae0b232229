use Rattle.std.proofs.Common.{◌≡◌, ◌++◌}
use Rattle.std.specs.List.{flat_map}
use Rattle.ld_base.specs.Numbers.{numbers_below}
use Rattle.ld_generator.specs.GeneratedLines.{round_of}
use Rattle.ld_generator.proofs.asks.push_rounds.Given as goal

abbrev pub invariant-loop-round : goal.invariant-loop-round
invariant-loop-round l =
    l.asks.items ≡ l.fn.asks.items ++ flat_map (round_of l.number l.persons) (numbers_below l.round)
