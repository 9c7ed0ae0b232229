use Rattle.std.proofs.Common.{◌≡◌, ◌++◌, string_bytes}
use Rattle.ld_json.specs.Places.{escaped}
use Rattle.ld_json.proofs.place.push_escaped.Given as goal

abbrev pub invariant-loop-c : goal.invariant-loop-c
invariant-loop-c l = string_bytes l.out ++ escaped l.c-iterator.rest.now ≡ string_bytes l.fn.out ++ escaped l.name
