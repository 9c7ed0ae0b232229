-- How many steps it takes to find the next alarm of a run.
use Rattle.std.specs.Prelude.{ℕ, cond, nat_eq, Bool}
use Rattle.std.specs.List.{list_any}
use Rattle.ld_cascade.specs.Work.{sum_below}
use Rattle.ld_model.specs.declared.unit.Unit.{Unit}
use Rattle.ld_state.specs.RunState.{RunState}
use Rattle.ld_firing.specs.RunSystem.{run_system}
use Rattle.ld_next.specs.Alarms.{alarm_steps_at}
use Rattle.ld_next.specs.declared.run_alarm.TheConstants.{NOW_SLOT}

-- The site of this number reads the moment.
abbrev pub reads_now : Unit → RunState → ℕ → Bool
reads_now unit s i = list_any (nat_eq NOW_SLOT) ((run_system unit).reads s i)

-- At most as many as it takes for each site that reads the moment.
abbrev pub steps_for_alarm : Unit → RunState → ℕ
steps_for_alarm unit s =
    sum_below ((run_system unit).count s) (λ i. cond (reads_now unit s i) (alarm_steps_at unit s i) 0)
