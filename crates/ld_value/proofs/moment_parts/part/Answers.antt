use Rattle.std.proofs.Common.{◌≡◌, ◌+◌, ◌-◌, length, take, drop, arith, length-take, length-drop}
use Rattle.ld_value.proofs.Pattern.{digits_of_moment, length-moment}
use Rattle.ld_value.proofs.moment_parts.part.Goals as goal

pub slice_bounds-number-end : goal.slice_bounds-number-end
slice_bounds-number-end c = omega (arith, length-moment c.args.bytes.now c.requires.form)

pub number-requires-clause-digits : goal.number-requires-clause-digits
number-requires-clause-digits c =
    let same : c.args.from + c.args.count - c.args.from ≡ c.args.count = omega arith in
    rw same (digits_of_moment c.args.bytes.now c.args.from c.args.count c.requires.form c.requires.digits)

pub returns-clause-value : goal.returns-clause-value
returns-clause-value c =
    let same : c.args.from + c.args.count - c.args.from ≡ c.args.count = omega arith in
    rw same at c.number.ensures.value

pub returns-clause-bound : goal.returns-clause-bound
returns-clause-bound c =
    let same : c.args.from + c.args.count - c.args.from ≡ c.args.count = omega arith in
    let long : length (take c.args.count (drop c.args.from c.args.bytes.now)) ≡ c.args.count = simp (length-take, length-drop) (omega (arith, length-moment c.args.bytes.now c.requires.form)) in
    rw long at (rw same at c.number.ensures.bound)
