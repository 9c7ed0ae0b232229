-- What the next alarm says of a tick that finds the run as it is: before it no site is due, and at it some site is.
use Rattle.std.proofs.Common.{◌≡◌, sym, ap, ◌∙◌, ℤ, pos, ◌+ℤ◌, ◌≤ℤ◌, Some, true, false}
use Rattle.ld_base.specs.Maybe.{◌>>=◌}
use Rattle.ld_value.specs.Datum.{moment_datum}
use Rattle.ld_model.specs.declared.cell.CellName.TheVariants.{Now}
use Rattle.ld_model.specs.declared.unit.Unit.{Unit}
use Rattle.ld_expr.specs.Seen.{moment_of_value}
use Rattle.ld_state.specs.RunState.{RunState}
use Rattle.ld_alarm.specs.Alarm.{first_after}
use Rattle.ld_alarm.specs.Later.{IsBefore}
use Rattle.ld_alarm.specs.NextAlarm.{at_moment, some_due, next_alarm}
use Rattle.ld_alarm.proofs.Moments.{found_then, none_until}

module _ (unit : Unit) (s : RunState) (now : ℤ) (is_now : s.cells Now ≡ Some (moment_datum now)) where
  alarm_is : next_alarm unit s ≡ first_after now (λ z. some_due unit (at_moment s z))
  alarm_is = ap (λ value. moment_of_value value >>= λ at. first_after at (λ z. some_due unit (at_moment s z))) is_now

  pub due_at_alarm : (z : ℤ) → next_alarm unit s ≡ Some z → some_due unit (at_moment s z) ≡ true
  due_at_alarm z is = found_then now (λ y. some_due unit (at_moment s y)) z (sym alarm_is ∙ is)

  pub none_due_before : (z : ℤ) → (now +ℤ pos 1) ≤ℤ z → z ≤ℤ pos 253402300799 → IsBefore z (next_alarm unit s)
      → some_due unit (at_moment s z) ≡ false
  none_due_before z low high before =
      none_until now (λ y. some_due unit (at_moment s y)) z low high (rw alarm_is at before)
