-- A moment as it is read.
use Rattle.std.specs.Prelude.{◌≡◌, refl, codes, Some}
use Rattle.jiff_core.specs.Calendar.{days_from_civil, day_count, days_of_years, days_of_months}
use Rattle.ld_value.specs.Calendar.{moment_of, has_moment_form, named_day, named_second, day_of, second_of}
use Rattle.ld_laws.specs.Courses.{clock}

-- Nine o'clock of 2024-01-01, from its text.
pub nine_is_read : moment_of (codes "2024-01-01T09:00:00Z") ≡ Some (clock 9 0)
unfolding moment_of has_moment_form named_day named_second day_of second_of days_from_civil day_count days_of_years days_of_months
nine_is_read = refl
