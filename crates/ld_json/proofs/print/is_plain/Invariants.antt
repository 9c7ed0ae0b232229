use Rattle.std.proofs.Common.{◌≡◌, ◌&&◌, drop}
use Rattle.ld_json.specs.Plain.{is_plain}
use Rattle.ld_json.proofs.print.is_plain.Given as goal

abbrev pub invariant-loop-byte : goal.invariant-loop-byte
invariant-loop-byte l = (l.plain && is_plain (drop l.byte-index l.fn.text)) ≡ is_plain l.fn.text
