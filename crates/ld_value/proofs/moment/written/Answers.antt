use Rattle.std.proofs.Common.{refl}
use Rattle.ld_value.proofs.moment.written.Goals as goal

pub returns : goal.returns
returns c =
    rw (c.four_digits.ensures, c.two_digits.ensures, c.two_digits-2.ensures, c.two_digits-3.ensures, c.two_digits-4.ensures, c.two_digits-5.ensures) refl
