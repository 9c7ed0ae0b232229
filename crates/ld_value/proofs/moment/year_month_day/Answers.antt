use Rattle.std.proofs.Common.{◌∙◌}
use Rattle.ld_value.proofs.Days.{date_cut}
use Rattle.ld_value.proofs.moment.year_month_day.Goals as goal

pub returns-clause-year : goal.returns-clause-year
returns-clause-year c =
    c.from.ensures ∙ c.unsigned_abs.ensures.value ∙ (date_cut c.in-Ok.date c.args.day c.ranges.day c.requires c.in-Ok.ensures.value).0

pub returns-clause-month : goal.returns-clause-month
returns-clause-month c =
    c.from-2.ensures ∙ (date_cut c.in-Ok.date c.args.day c.ranges.day c.requires c.in-Ok.ensures.value).1

pub returns-clause-day : goal.returns-clause-day
returns-clause-day c =
    c.from-3.ensures ∙ (date_cut c.in-Ok.date c.args.day c.ranges.day c.requires c.in-Ok.ensures.value).2
