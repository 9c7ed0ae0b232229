use Rattle.std.proofs.Common.{arith, ◌/◌, inl, inr}
use Rattle.std.proofs.lemmas.Bool.{cases_lt}
use Rattle.ld_graph.proofs.Bits.{bit_beyond}
use Rattle.ld_graph.proofs.levels.next_in.Goals as goal

pub returns-clause-none : goal.returns-clause-none
returns-clause-none c k le = elim (cases_lt (k / 64) c.loop-word.word) [
  | inl lt ↦ c.loop-word.invariant k le lt
  | inr ge ↦ bit_beyond c.args.level.now k (let e = c.len-word-end.ensures in omega arith)
]
