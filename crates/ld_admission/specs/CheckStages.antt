-- Checks of a command that are made together, and what goes on behind them where none of them refuses.
use Rattle.std.specs.Prelude.{ℕ, ℤ, List, Result}
use Rattle.ld_model.specs.declared.unit.Unit.{Unit}
use Rattle.ld_state.specs.RunState.{RunState}
use Rattle.ld_admission.specs.Checks.{in_time, running, the_person, not_enrolled, has_seat, does_not_hold, holds_it, has_room, keeps_apart, is_started, none_short, shortage_if_running}
use Rattle.ld_admission.specs.Commands.{Admitted}
use Rattle.ld_admission.specs.Refusals.{Refusal, ◌unless_refused◌ as ◌>>=◌, ◌>>◌}

-- What is left of the checks of a command.
abbrev pub Rest : Type 0
Rest = Result Admitted Refusal

-- The moment is in time, and the run is started.
abbrev pub in_running : RunState → ℤ → Rest → Rest
in_running s moment next = in_time s moment >> (running s >> next)

-- The same, and the person is there.
abbrev pub acting : RunState → ℤ → List ℕ → (ℕ → Rest) → Rest
acting s moment person next = in_running s moment (the_person s person >>= next)

-- Nothing stands against the enrolment of a person of this name.
abbrev pub enrolling : RunState → List ℕ → Rest → Rest
enrolling s name next = not_enrolled s name >> (has_seat s >> next)

-- Nothing stands against giving the person the role.
abbrev pub assigning : Unit → RunState → ℕ → ℕ → Rest → Rest
assigning unit s role p next =
    does_not_hold s role p >> (has_room unit s role p >> (keeps_apart unit s role p >> next))

-- Nothing stands against taking the role from the person.
unfoldable pub dropping : Unit → RunState → ℕ → ℕ → Rest → Rest
dropping unit s role p next =
    holds_it s role p >> (none_short unit (shortage_if_running unit s role p (is_started s)) >> next)
