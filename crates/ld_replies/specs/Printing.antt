-- What has to be so for what is told to have a text.
use Rattle.std.specs.Prelude.{◌≡◌, ◌≤◌, ◌<◌, List, length, IfSome, Bool, true, false, ⊤}
use Rattle.std.specs.List.{All}
use Rattle.std.specs.Option.{ForSome}
use Rattle.ld_value.specs.Calendar.{IsMoment}
use Rattle.ld_model.specs.Cells.{CellMap}
use Rattle.ld_model.specs.declared.cell.CellName.{CellName}
use Rattle.ld_model.specs.declared.unit.Unit.{Unit}
use Rattle.ld_names.specs.Things.{things_of}
use Rattle.ld_expr.specs.Seen.{moment_of_value}
use Rattle.ld_state.specs.RunState.{NoticeState, RunState}
use Rattle.ld_admission.specs.Refusals.{Refusal, MomentBack, RoleShort}
use Rattle.ld_admission.specs.Checks.{is_started}
use Rattle.ld_admission.specs.Commands.{Admitted, gets, shows_tree, shows_outbox, shows_next}
use Rattle.ld_admission.specs.AdmittedView.{HasPropertyCell}

-- The moment that the refusal tells lies in the years 1 to 9999, and the identifier has at most 64 bytes.
abbrev pub IsPrintable : Refusal → Type 0
IsPrintable (MomentBack last) = IsMoment last
IsPrintable (RoleShort role _ _) = length role ≤ 64
IsPrintable _ = ⊤

-- A moment in a cell lies in the years 1 to 9999.
abbrev pub HasMoments : CellMap → Type 0
HasMoments cells = (name : CellName) → ForSome (moment_of_value (cells name)) IsMoment

-- The moment of the notice lies in those years, and its activity, if it has one, is a thing of the unit.
pub record IsNoticeOf (unit : Unit) (notice : NoticeState) : Type 0 where
  pub moment : IsMoment notice.moment
  pub activity : IfSome notice.activity (λ thing. thing < length (things_of unit))

-- Each of the notices has such a moment and such an activity.
abbrev pub AreNoticesOf : Unit → List NoticeState → Type 0
AreNoticesOf unit notices = All (IsNoticeOf unit) notices

-- What the command asks to be told is there.
abbrev pub IsTellable : Unit → RunState → Admitted → Type 0
IsTellable unit s (gets cell) = HasPropertyCell unit s cell
IsTellable unit s (shows_tree p) = p < length s.persons
IsTellable unit s (shows_outbox p) = p < length s.persons
IsTellable unit s shows_next = is_started s ≡ true
IsTellable unit s _ = ⊤

-- The command asks for the next alarm, which is not told from the run's state alone.
abbrev pub asks_alarm : Admitted → Bool
asks_alarm shows_next = true
asks_alarm _ = false
