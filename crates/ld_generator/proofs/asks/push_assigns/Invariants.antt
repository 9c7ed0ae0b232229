use Rattle.std.proofs.Common.{◌≡◌, ◌++◌, map}
use Rattle.ld_base.specs.Numbers.{numbers_below}
use Rattle.ld_generator.specs.declared.ask.Ask.TheVariants.{Assign}
use Rattle.ld_generator.proofs.asks.push_assigns.Given as goal

abbrev pub invariant-loop-person : goal.invariant-loop-person
invariant-loop-person l = l.asks.items ≡ l.fn.asks.items ++ map Assign (numbers_below l.person)
