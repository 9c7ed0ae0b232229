use Rattle.std.proofs.Common.{arith, ap, length, length-append}
use Rattle.std.proofs.lemmas.Fmt.{length-decimal-le}
use Rattle.ld_value.proofs.integer.print_integer.Goals as goal

pub put_decimal-requires : goal.put_decimal-requires
put_decimal-requires c =
    omega (arith, ap length c.new-draft.ensures, length-decimal-le 19 c.unsigned_abs.result (omega arith) (omega arith) (omega arith))

pub put-requires : goal.put-requires
put-requires c =
    omega (arith, ap length c.new-draft.ensures, simp length-append at (ap length c.put_decimal.ensures), length-decimal-le 19 c.unsigned_abs.result (omega arith) (omega arith) (omega arith))
