-- When the test of a site first differs from what it is, if time alone goes on. Every moment is looked at.
use Rattle.std.specs.Prelude.{ℕ, zero, suc, ◌+◌, ◌*◌, ℤ, pos, ◌+ℤ◌, Option, Some, None, Bool, not, if◌then◌else◌}
use Rattle.std.specs.Int.{int_gap}
use Rattle.ld_base.specs.Maybe.{◌>>=◌}
use Rattle.ld_value.specs.Datum.{same_truth}
use Rattle.ld_model.specs.declared.cell.CellName.TheVariants.{Now}
use Rattle.ld_model.specs.declared.unit.Unit.{Unit}
use Rattle.ld_names.specs.Rules.{Site}
use Rattle.ld_expr.specs.Seen.{Seen, moment_of_value}
use Rattle.ld_rules.specs.SiteTests.{site_test}
use Rattle.ld_alarm.specs.Later.{latest_moment}
use Rattle.ld_alarm.specs.SeenAt.{seen_at}

-- The first of this many moments, a second apart and this one first, that passes the test.
abbrev pub first_moment : ℕ → ℤ → (ℤ → Bool) → Option ℤ
first_moment zero from passes = None
first_moment (suc n) from passes = if passes from then Some from else first_moment n (from +ℤ pos 1) passes

-- The first moment after this one, up to the latest that there is, that passes the test.
unfoldable pub first_after : ℤ → (ℤ → Bool) → Option ℤ
first_after moment passes = first_moment (int_gap moment latest_moment) (moment +ℤ pos 1) passes

-- The test of the site is another one where `Now` alone is put to the moment.
abbrev pub differs_at : Unit → Seen → Site → ℤ → Bool
differs_at unit seen site moment =
    not (same_truth (site_test unit (seen_at seen moment) site) (site_test unit seen site))

-- The first moment after `Now` at which it is; none if there is none.
abbrev pub site_alarm : Unit → Seen → Site → Option ℤ
site_alarm unit seen site =
    moment_of_value (seen.value Now) >>= λ now. first_after now (differs_at unit seen site)

-- At most this many steps are taken to find it, where the rule of the site asks to look at this many cells.
abbrev pub alarm_steps : ℕ → ℕ
alarm_steps size = (2 * size + 2) * (size + 1)
