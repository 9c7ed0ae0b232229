use Rattle.std.proofs.Common.{rules, arith}
use Rattle.std.proofs.lemmas.Grind.{common_steps}
use Rattle.ld_words.proofs.Digits.{too_large}
use Rattle.ld_words.proofs.form.number_of.Goals as goal

pub returns-in_default-clause-value : goal.returns-in_default-clause-value
returns-in_default-clause-value c =
    too_large c.args.word.now c.args.digits c.args.least c.args.most c.in_default.field-0 c.in_default.ensures.value.0
    (search rules) (grind (arith, common_steps)) (omega (arith, c.ranges.most.fits))
