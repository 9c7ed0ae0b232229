use Rattle.ld_value.proofs.Pattern.{not_follows}
use Rattle.ld_value.proofs.moment_parts.follows.Goals as goal

pub returns-then-bytes-pattern : goal.returns-then-bytes-pattern
returns-then-bytes-pattern c = not_follows _ _ c.if-bytes-pattern.true
