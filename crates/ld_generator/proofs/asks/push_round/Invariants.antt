use Rattle.std.proofs.Common.{◌≡◌, ◌++◌}
use Rattle.ld_generator.specs.GeneratedLines.{round_of}
use Rattle.ld_generator.proofs.asks.push_round.Given as goal

abbrev pub invariant-loop-person : goal.invariant-loop-person
invariant-loop-person l = l.asks.items ≡ l.fn.asks.items ++ round_of l.number l.person l.round
