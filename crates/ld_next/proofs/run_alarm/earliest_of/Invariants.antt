use Rattle.std.proofs.Common.{◌≡◌, ◌+◌, ◌≤◌, option_map}
use Rattle.std.specs.Prelude.{sum_by}
use Rattle.ld_value.specs.declared.moment.Moment.{Moment}
use Rattle.ld_state.specs.StateView.{run_of}
use Rattle.ld_alarm.specs.Later.{earlier, earliest_of}
use Rattle.ld_next.specs.Alarms.{alarm_at, alarm_steps_at}
use Rattle.ld_next.proofs.run_alarm.earliest_of.Given as goal

abbrev pub invariant-loop-number : goal.invariant-loop-number
invariant-loop-number g l =
    let s = run_of l.state in
    (earlier (option_map (λ (moment : Moment). moment.0) l.next) (earliest_of (alarm_at l.unit s) l.number-iterator)
    ≡ earliest_of (alarm_at l.unit s) l.fn.readers)
    × (l.steps + sum_by (alarm_steps_at l.unit s) l.number-iterator ≤ l.fn.steps + sum_by (alarm_steps_at l.unit s) l.fn.readers)
