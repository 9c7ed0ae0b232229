use Rattle.std.proofs.Common.{refl, ◌≡◌, ◌∙◌}
use Rattle.ld_value.specs.Calendar.{text_of_moment}
use Rattle.ld_value.proofs.Moments.{moment_of-text_of_moment, printed}
use Rattle.ld_value.proofs.moment.print_moment.Goals as goal

pub returns-clause-text : goal.returns-clause-text
returns-clause-text c =
    let parts = c.year_month_day-year.ensures in
    c.written.ensures ∙ printed c.args.moment.0 _ _ _ _ _ c.requires c.div_euclid-day.ensures c.rem_euclid-second.ensures.value parts.year parts.month parts.day _ refl

pub returns-clause-back : goal.returns-clause-back
returns-clause-back c =
    let parts = c.year_month_day-year.ensures in
    let text : c.written.result ≡ text_of_moment c.args.moment.0 =
    c.written.ensures ∙ printed c.args.moment.0 _ _ _ _ _ c.requires c.div_euclid-day.ensures c.rem_euclid-second.ensures.value parts.year parts.month parts.day _ refl in
    rw text (moment_of-text_of_moment c.args.moment.0 c.requires)
