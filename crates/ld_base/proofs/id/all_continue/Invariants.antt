use Rattle.std.proofs.Common.{◌≡◌, true, take}
use Rattle.std.specs.List.{list_all}
use Rattle.ld_base.specs.Identifier.{continues_identifier}
use Rattle.ld_base.proofs.id.all_continue.Given as goal

abbrev pub invariant-loop-b : goal.invariant-loop-b
invariant-loop-b l = list_all continues_identifier (take l.b-index l.bytes) ≡ true
