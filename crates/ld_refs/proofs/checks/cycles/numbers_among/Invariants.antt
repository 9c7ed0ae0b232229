use Rattle.std.proofs.Common.{◌≡◌, ◌++◌, drop}
use Rattle.ld_refs.specs.Reaching.{numbers_among}
use Rattle.ld_refs.proofs.checks.cycles.numbers_among.Given as goal

abbrev pub invariant-loop-id : goal.invariant-loop-id
invariant-loop-id l = l.numbers.items ++ numbers_among l.nodes l.names (drop l.id-index l.ids) ≡ numbers_among l.nodes l.names l.ids
