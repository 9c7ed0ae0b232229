use Rattle.std.proofs.Common.{arith}
use Rattle.std.proofs.lemmas.Grind.{common_steps}
use Rattle.ld_value.proofs.Numerals.{digit_in, digits_value-take_next, room_for_next, digits_value_bound}
use Rattle.ld_value.proofs.digits.number.Goals as goal

pub overflow_mul-number : goal.overflow_mul-number
overflow_mul-number c = omega (arith, c.loop-digit.invariant, room_for_next _ _ c.requires.digits c.loop-digit-test.true c.requires.short)

pub overflow_sub-digit : goal.overflow_sub-digit
overflow_sub-digit c = omega (arith, digit_in _ _ c.requires.digits c.loop-digit-test.true)

pub overflow_add-number : goal.overflow_add-number
overflow_add-number c = omega (arith, c.loop-digit.invariant, room_for_next _ _ c.requires.digits c.loop-digit-test.true c.requires.short)

pub loop-digit-preserved : goal.loop-digit-preserved
loop-digit-preserved c = omega (arith, c.loop-digit.invariant, digits_value-take_next _ _ c.requires.digits c.loop-digit-test.true)

pub returns-clause-bound : goal.returns-clause-bound
returns-clause-bound c = grind (arith, common_steps, digits_value_bound c.args.digits.now c.requires.digits)
