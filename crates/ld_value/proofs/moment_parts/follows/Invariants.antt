use Rattle.std.proofs.Common.{◌≡◌, ◌&&◌, drop}
use Rattle.ld_value.specs.Calendar.{follows as spec_follows}
use Rattle.ld_value.proofs.moment_parts.follows.Given as goal

abbrev pub invariant-loop-i : goal.invariant-loop-i
invariant-loop-i l = spec_follows l.pattern l.bytes ≡ (l.follows && spec_follows (drop l.i l.pattern) (drop l.i l.bytes))
