use Rattle.std.proofs.Common.{◌≡◌, ℕ, ◌/◌, ◌<◌, ◌≤◌, false}
use Rattle.ld_graph.specs.Words.{bit}
use Rattle.ld_graph.proofs.levels.next_in.Given as goal

abbrev pub invariant-loop-word : goal.invariant-loop-word
invariant-loop-word l = (k : ℕ) → l.first ≤ k / 64 → k / 64 < l.word → bit l.level k ≡ false
