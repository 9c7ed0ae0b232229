use Rattle.std.proofs.Common.{rules, arith}
use Rattle.ld_json.proofs.Escapes.{escaped-encode}
use Rattle.ld_json.proofs.place.push_character.Goals as goal

pub returns : goal.returns
returns c = rw (escaped-encode c.args.c (omega arith) (omega arith)) (search rules)
