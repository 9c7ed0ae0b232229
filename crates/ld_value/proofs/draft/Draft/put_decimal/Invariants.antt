use Rattle.std.proofs.Common.{◌≡◌, ◌++◌}
use Rattle.std.specs.Fmt.{decimal}
use Rattle.ld_value.proofs.draft.Draft.put_decimal.Given as goal

abbrev pub invariant-loop-rest : goal.invariant-loop-rest
invariant-loop-rest l = decimal l.number ++ l.fn.self ≡ decimal l.rest ++ l.self

abbrev pub decreases-loop-rest : goal.decreases-loop-rest
decreases-loop-rest l = l.rest
