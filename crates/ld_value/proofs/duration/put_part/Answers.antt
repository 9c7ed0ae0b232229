use Rattle.std.proofs.Common.{arith, length, ap}
use Rattle.std.proofs.lemmas.Fmt.{length-decimal-le}
use Rattle.ld_value.proofs.Decimals.{part_long}
use Rattle.ld_value.proofs.duration.put_part.Goals as goal

pub put_decimal-requires : goal.put_decimal-requires
put_decimal-requires c =
    omega (arith, ap length c.put.ensures, length-decimal-le 15 c.args.number (omega arith) c.requires.number (omega arith))

pub returns-clause-long : goal.returns-clause-long
returns-clause-long c =
    part_long c.args.number c.args.letter 15 _ _ _ (omega arith) c.requires.number (omega arith) c.put.ensures c.put_decimal.ensures

pub returns-clause-short : goal.returns-clause-short
returns-clause-short c =
    λ small. part_long c.args.number c.args.letter 2 _ _ _ (omega arith) small (omega arith) c.put.ensures c.put_decimal.ensures
