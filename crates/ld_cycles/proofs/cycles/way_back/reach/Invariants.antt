use Rattle.std.proofs.Common.{◌≡◌, ℕ, Bool, true}
use Rattle.std.specs.List.{list_all}
use Rattle.ld_cycles.proofs.cycles.way_back.reach.Given as goal

abbrev pub invariant-loop-node : goal.invariant-loop-node
invariant-loop-node l = (test : ℕ → Bool) → list_all test l.fn.reached.items ≡ true → list_all test l.next ≡ true → list_all test l.reached.items ≡ true
