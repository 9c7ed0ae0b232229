-- The checks of a command, in order: the first that fails is the refusal, and else the command is admitted.
use Rattle.std.specs.Prelude.{ℕ, ℤ, pos, List, [], length, Option, Some, None, Result, Ok, Err, ok_or, Bool, true, false, not, is_some, nat_le, int_lt, slice_get, unwrap_or, ⊤}
use Rattle.std.specs.Option.{option_map, option_and_then}
use Rattle.ld_base.specs.Maybe.{provided}
use Rattle.ld_value.specs.Datum.{Datum}
use Rattle.ld_value.specs.Values.{value_of}
use Rattle.ld_names.specs.Names.{role_number}
use Rattle.ld_expr.specs.Lookup.{is_some_and}
use Rattle.ld_expr.specs.Membership.{is_member_of}
use Rattle.ld_expr.specs.Owners.{fits_property, of_person}
use Rattle.ld_expr.specs.Seen.{moment_of_value}
use Rattle.ld_expr.specs.Terms.{property_cell_of}
use Rattle.ld_model.specs.Roles.{roles_of}
use Rattle.ld_model.specs.declared.activity.Activity.{Activity}
use Rattle.ld_model.specs.declared.cell.CellName.{CellName}
use Rattle.ld_model.specs.declared.cell.CellName.TheVariants.{Started, Now}
use Rattle.ld_model.specs.declared.completion.Completion.{Completion}
use Rattle.ld_model.specs.declared.completion.Completion.TheVariants.{UserChoice}
use Rattle.ld_model.specs.declared.property.Property.{Property}
use Rattle.ld_model.specs.declared.unit.Unit.{Unit}
use Rattle.ld_roles.specs.Roster.{Shortage, person_number, holds_role, has_no_room, is_excluded, short_at_start, short_once_dropped}
use Rattle.ld_state.specs.RunState.{RunState, seen_in}
use Rattle.ld_admission.specs.Found.{FoundActivity, FoundProperty, activity_found, property_found}
use Rattle.ld_admission.specs.Commands.{Admitted, enrols, assigns, drops, starts, opens, completes, sets, clears, gets, shows_tree, shows_outbox, reports, ticks, shows_next}
use Rattle.ld_lines.specs.declared.command.RunCommand.{RunCommand}
use Rattle.ld_lines.specs.declared.command.RunCommand.TheVariants.{Enrol, Assign, Drop, Start, Open, Complete, Set, Clear, Get, Tree, Outbox, Report, Tick, Next}
use Rattle.ld_admission.specs.Refusals.{Refusal, MomentBack, NotStarted, StartedAlready, UnknownPerson, PersonExists, RunFull, UnknownRole, HoldsAlready, NotHeld, RoleFull, RoleExclusive, RoleShort, UnknownActivity, NotByChoice, UnknownProperty, BadValue, NotAllowed, ◌unless_refused◌ as ◌>>=◌, ◌>>◌, refuse_if}

-- A check: it passes, or it refuses.
abbrev pub Passed : Type 0
Passed = Result ⊤ Refusal

-- ---- moments and persons

-- The run's last moment, or 0 where its cell has none.
abbrev pub last_moment : RunState → ℤ
last_moment s = unwrap_or (moment_of_value (s.cells Now)) (pos 0)

-- The run is started: there is a moment at which it was.
abbrev pub is_started : RunState → Bool
is_started s = is_some (s.cells Started)

-- The moment is not before the run's last one.
abbrev pub in_time : RunState → ℤ → Passed
in_time s moment = refuse_if (int_lt moment (last_moment s)) (MomentBack (last_moment s))

-- The run is started.
abbrev pub running : RunState → Passed
running s = refuse_if (not (is_started s)) NotStarted

-- The run is not started.
abbrev pub not_running : RunState → Passed
not_running s = refuse_if (is_started s) StartedAlready

-- The number of the person of this name in the run.
abbrev pub the_person : RunState → List ℕ → Result ℕ Refusal
the_person s person = ok_or (person_number s.persons person) UnknownPerson

-- No person of this name is enrolled in the run.
abbrev pub not_enrolled : RunState → List ℕ → Passed
not_enrolled s person = refuse_if (is_some (person_number s.persons person)) PersonExists

-- A seat is left.
abbrev pub has_seat : RunState → Passed
has_seat s = refuse_if (nat_le s.seats (length s.persons)) RunFull

-- ---- roles

-- The number of the role of this identifier.
abbrev pub the_role : Unit → List ℕ → Result ℕ Refusal
the_role unit role = ok_or (role_number unit role) UnknownRole

-- The person does not hold this very role.
abbrev pub does_not_hold : RunState → ℕ → ℕ → Passed
does_not_hold s role p = refuse_if (holds_role s.persons role p) HoldsAlready

-- The person holds this very role.
abbrev pub holds_it : RunState → ℕ → ℕ → Passed
holds_it s role p = refuse_if (not (holds_role s.persons role p)) NotHeld

-- The role, and each that it stands within, has room for the person or has the person as a member.
abbrev pub has_room : Unit → RunState → ℕ → ℕ → Passed
has_room unit s role p = refuse_if (has_no_room unit s.persons role p) RoleFull

-- The role would not bring the person into two roles right within an `exclusively-in-roles` one.
abbrev pub keeps_apart : Unit → RunState → ℕ → ℕ → Passed
keeps_apart unit s role p = refuse_if (is_excluded unit s.persons role p) RoleExclusive

-- The identifier of the role of this number, or the empty text where there is none.
abbrev pub role_identifier : Unit → ℕ → List ℕ
role_identifier unit role = unwrap_or (option_map (λ row. row.identifier) (slice_get (roles_of unit) role)) []

-- No role is short of members.
abbrev pub none_short : Unit → Option Shortage → Passed
none_short unit None = Ok tt
none_short unit (Some short) = Err (RoleShort (role_identifier unit short.role) short.count short.least)

-- In a run that is started, the first role that would be short once the person has dropped the role.
abbrev pub shortage_if_running : Unit → RunState → ℕ → ℕ → Bool → Option Shortage
shortage_if_running unit s role p true = short_once_dropped unit s.persons role p
shortage_if_running unit s role p false = None

-- ---- activities

-- The activity of this identifier, with its number.
abbrev pub the_activity : Unit → List ℕ → Result FoundActivity Refusal
the_activity unit id = ok_or (activity_found unit id) UnknownActivity

-- The completion rule is `user-choice`.
abbrev pub is_choice : Completion → Bool
is_choice UserChoice = true
is_choice _ = false

-- The activity is completed by its person's choice.
abbrev pub is_by_choice : Activity → Bool
is_by_choice activity = is_some_and is_choice activity.complete

-- It is up to the person to say that the activity is completed.
abbrev pub only_by_choice : Activity → Passed
only_by_choice activity = refuse_if (not (is_by_choice activity)) NotByChoice

-- ---- properties

-- The property of this identifier, with its number.
abbrev pub the_property : Unit → List ℕ → Result FoundProperty Refusal
the_property unit id = ok_or (property_found unit id) UnknownProperty

-- The cell of the property for the person.
abbrev pub own_cell : Unit → ℕ → FoundProperty → CellName
own_cell unit p found = property_cell_of unit (of_person p) found.number found.property

-- The value that the text has as one of the property's datatype; it has to meet the restrictions.
abbrev pub fitting_value : Property → List ℕ → Result Datum Refusal
fitting_value property text =
    let if_fits = λ (value : Datum). provided (fits_property property value) value in
    ok_or (option_and_then if_fits (value_of property.datatype text)) BadValue

-- A property of a role is written by members of the role alone.
abbrev pub may_write : Unit → RunState → ℕ → Property → Passed
may_write unit s p property = refuse_if
    (is_some_and (λ role. not (is_member_of unit (seen_in unit s) role p)) property.role)
    NotAllowed

-- ---- the checks of each command

-- What the command is once all its checks pass, in their order; or the refusal of the first that fails.
unfoldable pub admitted : Unit → RunState → ℤ → RunCommand → Result Admitted Refusal
admitted unit s moment (Enrol person) = do
  in_time s moment
  not_enrolled s person
  has_seat s
  Ok (enrols person)
admitted unit s moment (Assign person role) = do
  in_time s moment
  p ← the_person s person
  r ← the_role unit role
  does_not_hold s r p
  has_room unit s r p
  keeps_apart unit s r p
  Ok (assigns p r)
admitted unit s moment (Drop person role) = do
  in_time s moment
  p ← the_person s person
  r ← the_role unit role
  holds_it s r p
  none_short unit (shortage_if_running unit s r p (is_started s))
  Ok (drops p r)
admitted unit s moment Start = do
  in_time s moment
  not_running s
  none_short unit (short_at_start unit s.persons)
  Ok starts
admitted unit s moment (Open person activity) = do
  in_time s moment
  running s
  p ← the_person s person
  found ← the_activity unit activity
  Ok (opens p found.number)
admitted unit s moment (Complete person activity) = do
  in_time s moment
  running s
  p ← the_person s person
  found ← the_activity unit activity
  only_by_choice found.activity
  Ok (completes p found.number)
admitted unit s moment (Set person property text) = do
  in_time s moment
  running s
  p ← the_person s person
  found ← the_property unit property
  value ← fitting_value found.property text
  may_write unit s p found.property
  Ok (sets (own_cell unit p found) value)
admitted unit s moment (Clear person property) = do
  in_time s moment
  running s
  p ← the_person s person
  found ← the_property unit property
  may_write unit s p found.property
  Ok (clears (own_cell unit p found))
admitted unit s moment (Get person property) = do
  in_time s moment
  running s
  p ← the_person s person
  found ← the_property unit property
  Ok (gets (own_cell unit p found))
admitted unit s moment (Tree person) = do
  in_time s moment
  running s
  p ← the_person s person
  Ok (shows_tree p)
admitted unit s moment (Outbox person) = do
  in_time s moment
  running s
  p ← the_person s person
  Ok (shows_outbox p)
admitted unit s moment Report = do
  in_time s moment
  running s
  Ok reports
admitted unit s moment Tick = do
  in_time s moment
  running s
  Ok ticks
admitted unit s moment Next = do
  in_time s moment
  running s
  Ok shows_next
