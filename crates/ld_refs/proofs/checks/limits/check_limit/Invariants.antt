use Rattle.std.proofs.Common.{◌≡◌, drop}
use Rattle.ld_refs.specs.Bounds.{beyond, is_counted}
use Rattle.ld_refs.proofs.checks.limits.check_limit.Given as goal

abbrev pub invariant-loop-index : goal.invariant-loop-index
invariant-loop-index l = beyond l.left (is_counted l.counted) (drop l.index l.listing) ≡ beyond l.limit (is_counted l.counted) l.listing
