use Rattle.std.proofs.Common.{arith}
use Rattle.ld_base.proofs.Identifiers.{continues_read}
use Rattle.ld_base.proofs.id.continues.Goals as goal

pub returns : goal.returns
returns c = continues_read c.args.b (omega arith)
