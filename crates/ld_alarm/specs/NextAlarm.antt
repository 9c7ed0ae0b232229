-- When a site of a run is next due, if time alone goes on. Every moment and every site is looked at.
use Rattle.std.specs.Prelude.{ℤ, Option, Some, Bool}
use Rattle.std.specs.List.{list_any}
use Rattle.ld_base.specs.Maybe.{◌>>=◌}
use Rattle.ld_value.specs.Datum.{moment_datum}
use Rattle.ld_model.specs.declared.cell.CellName.TheVariants.{Now}
use Rattle.ld_model.specs.declared.unit.Unit.{Unit}
use Rattle.ld_expr.specs.Seen.{moment_of_value}
use Rattle.ld_state.specs.RunState.{RunState, with_cell}
use Rattle.ld_firing.specs.SiteWalk.{is_due, all_sites}
use Rattle.ld_alarm.specs.Alarm.{first_after}

-- The run once this moment is its last one.
abbrev pub at_moment : RunState → ℤ → RunState
at_moment s moment = with_cell s Now (Some (moment_datum moment))

-- The test of some site differs from its mark.
abbrev pub some_due : Unit → RunState → Bool
some_due unit s = list_any (is_due unit s) (all_sites unit s)

-- The first moment after `Now`, up to 9999-12-31T23:59:59Z, at which that is so; none if there is none.
abbrev pub next_alarm : Unit → RunState → Option ℤ
next_alarm unit s =
    moment_of_value (s.cells Now) >>= λ now. first_after now (λ moment. some_due unit (at_moment s moment))
