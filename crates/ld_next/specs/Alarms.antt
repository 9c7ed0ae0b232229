-- The alarms of sites that are given by their numbers.
use Rattle.std.specs.Prelude.{ℕ, ℤ, Option, None, Contains}
use Rattle.ld_model.specs.declared.unit.Unit.{Unit}
use Rattle.ld_state.specs.RunState.{RunState, seen_in}
use Rattle.ld_firing.specs.RunSystem.{of_site, run_system}
use Rattle.ld_alarm.specs.Alarm.{alarm_steps, site_alarm}
use Rattle.ld_next.specs.declared.run_alarm.TheConstants.{NOW_SLOT}

-- The alarm of the site of this number; a number that no site has has none.
abbrev pub alarm_at : Unit → RunState → ℕ → Option ℤ
alarm_at unit s i = of_site unit s i (site_alarm unit (seen_in unit s)) None

-- At most this many steps are taken for it.
abbrev pub alarm_steps_at : Unit → RunState → ℕ → ℕ
alarm_steps_at unit s i = alarm_steps ((run_system unit).size s i)

-- The site of this number reads `Now`.
abbrev pub ReadsNow : Unit → RunState → ℕ → Type 0
ReadsNow unit s i = Contains ((run_system unit).reads s i) NOW_SLOT
