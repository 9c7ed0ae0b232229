use Rattle.std.proofs.Common.{arith}
use Rattle.ld_value.proofs.Dates.{no_year_zero, no_day_cast, the_day_cast, day_number_casts}
use Rattle.ld_value.proofs.moment_parts.day_number.Goals as goal

pub returns-then-year-eq0-clause-value : goal.returns-then-year-eq0-clause-value
returns-then-year-eq0-clause-value c = no_year_zero _ _ _ c.if-year-eq0.true

pub returns-in_default-clause-value : goal.returns-in_default-clause-value
returns-in_default-clause-value c =
    no_day_cast _ _ _ c.requires.year c.requires.month c.requires.day (λ is. let no = c.in_default.ensures.succeeds.1 is in cc)

pub returns-clause-value : goal.returns-clause-value
returns-clause-value c =
    let there = the_day_cast c.args.year c.args.month c.args.day c.in-Ok.date (omega arith) c.requires.year c.requires.month c.requires.day c.in-Ok.ensures.value in
    let casts = day_number_casts c.to_unix_epoch_day.result c.to_unix_epoch_day.ensures.bound in
    rw (c.from.ensures, casts, c.to_unix_epoch_day.ensures.value, c.to_plain.ensures) there

pub returns-clause-bound : goal.returns-clause-bound
returns-clause-bound c =
    let casts = day_number_casts c.to_unix_epoch_day.result c.to_unix_epoch_day.ensures.bound in
    rw (c.from.ensures, casts) c.to_unix_epoch_day.ensures.bound
