use Rattle.std.proofs.Common.{sym}
use Rattle.std.proofs.lemmas.Str.{IsUtf8-from_ascii}
use Rattle.ld_base.proofs.Ascii.{IsAscii-identifier}
use Rattle.ld_base.proofs.id.Id.read.Goals as goal

pub unreachable-requires : goal.unreachable-requires
unreachable-requires c = c.in-Err.ensures.cases.0 (IsUtf8-from_ascii _ (IsAscii-identifier _ (sym c.if-not-has_form.ensures)))
