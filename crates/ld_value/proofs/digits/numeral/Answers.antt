use Rattle.ld_value.proofs.Numerals.{numeral_bound}
use Rattle.ld_value.proofs.digits.numeral.Goals as goal

pub returns-clause-bound : goal.returns-clause-bound
returns-clause-bound c = numeral_bound _ _ _ c.number.ensures.bound c.if-text-most.false
