use Rattle.std.proofs.Common.{arith}
use Rattle.ld_base.proofs.Identifiers.{begins_read}
use Rattle.ld_base.proofs.id.begins.Goals as goal

pub returns : goal.returns
returns c = begins_read c.args.b (omega arith)
