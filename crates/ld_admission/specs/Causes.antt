-- The causes for which a command is refused before anything is done, in order.
use Rattle.std.specs.Prelude.{ℕ, ℤ, List, [], ◌∷◌, length, Option, Some, None, Result, Ok, Err, Bool, not, is_some, nat_le, int_lt}
use Rattle.std.specs.Option.{option_map, option_and_then}
use Rattle.ld_base.specs.Maybe.{◌>>=◌, provided}
use Rattle.ld_value.specs.Datum.{Datum}
use Rattle.ld_value.specs.Values.{value_of}
use Rattle.ld_model.specs.declared.property.Property.{Property}
use Rattle.ld_model.specs.declared.unit.Unit.{Unit}
use Rattle.ld_lines.specs.declared.command.RunCommand.{RunCommand}
use Rattle.ld_lines.specs.declared.command.RunCommand.TheVariants.{Enrol, Assign, Drop, Start, Open, Complete, Set, Clear, Get, Tree, Outbox, Report, Tick, Next}
use Rattle.ld_names.specs.Names.{role_number}
use Rattle.ld_expr.specs.Lookup.{is_some_and}
use Rattle.ld_expr.specs.Membership.{is_member_of}
use Rattle.ld_expr.specs.Owners.{fits_property}
use Rattle.ld_roles.specs.Roster.{Shortage, person_number, holds_role, has_no_room, is_excluded, short_at_start}
use Rattle.ld_state.specs.RunState.{RunState, seen_in}
use Rattle.ld_admission.specs.Checks.{last_moment, is_started, is_by_choice, role_identifier, shortage_if_running}
use Rattle.ld_admission.specs.Found.{FoundProperty, activity_found, property_found}
use Rattle.ld_admission.specs.Refusals.{Refusal, MomentBack, NotStarted, StartedAlready, UnknownPerson, PersonExists, RunFull, UnknownRole, HoldsAlready, NotHeld, RoleFull, RoleExclusive, RoleShort, UnknownActivity, NotByChoice, UnknownProperty, BadValue, NotAllowed}

-- A cause, where its truth holds.
abbrev pub Cause : Type 0
Cause = Option Refusal

-- The first cause that there is.
abbrev pub first_cause : List Cause → Option Refusal
first_cause [] = None
first_cause (Some refusal ∷ causes) = Some refusal
first_cause (None ∷ causes) = first_cause causes

-- The refusal, where the result is one.
abbrev pub refusal_in : {A : Type 0} → Result A Refusal → Option Refusal
refusal_in (Ok x) = None
refusal_in (Err refusal) = Some refusal

-- Nothing was found.
abbrev pub unless_found : {A : Type 0} → Option A → Refusal → Cause
unless_found found refusal = provided (not (is_some found)) refusal

-- The test holds of both.
abbrev pub of_both : (ℕ → ℕ → Bool) → Option ℕ → Option ℕ → Bool
of_both test r p = is_some_and (λ role. is_some_and (test role) p) r

-- The moment is before the run's last one.
abbrev pub too_early : RunState → ℤ → Cause
too_early s moment = provided (int_lt moment (last_moment s)) (MomentBack (last_moment s))

-- The run is not started.
abbrev pub not_started : RunState → Cause
not_started s = provided (not (is_started s)) NotStarted

-- A role is short of members, of which its identifier and both numbers are told.
abbrev pub shortage_cause : Unit → Option Shortage → Cause
shortage_cause unit short =
    option_map (λ one. RoleShort (role_identifier unit one.role) one.count one.least) short

-- Where both are found and the run is started: the first role that would be short once it is dropped.
abbrev pub shortage_for : Unit → RunState → Option ℕ → Option ℕ → Option Shortage
shortage_for unit s r p = r >>= λ role. p >>= λ person. shortage_if_running unit s role person (is_started s)

-- The value that the text has as one of the property's datatype, where it meets the restrictions.
abbrev pub fitting : Property → List ℕ → Option Datum
fitting property text = option_and_then
    (λ value. provided (fits_property property value) value)
    (value_of property.datatype text)

-- The property is one of a role that the person is no member of.
abbrev pub bars : Unit → RunState → ℕ → Property → Bool
bars unit s p property =
    is_some_and (λ role. not (is_member_of unit (seen_in unit s) role p)) property.role

-- Both are found, and the property is one of a role that the person is no member of.
abbrev pub is_barred : Unit → RunState → Option ℕ → Option FoundProperty → Bool
is_barred unit s p found =
    is_some_and (λ person. is_some_and (λ one. bars unit s person one.property) found) p

-- The causes of each command, in the order of its checks; the first that holds is the refusal.
abbrev pub causes : Unit → RunState → ℤ → RunCommand → List Cause
causes unit s moment (Enrol person) =
    too_early s moment
    ∷ provided (is_some (person_number s.persons person)) PersonExists
    ∷ provided (nat_le s.seats (length s.persons)) RunFull ∷ []
causes unit s moment (Assign person role) =
    let p = person_number s.persons person in
    let r = role_number unit role in
    too_early s moment ∷ unless_found p UnknownPerson ∷ unless_found r UnknownRole
    ∷ provided (of_both (holds_role s.persons) r p) HoldsAlready
    ∷ provided (of_both (has_no_room unit s.persons) r p) RoleFull
    ∷ provided (of_both (is_excluded unit s.persons) r p) RoleExclusive ∷ []
causes unit s moment (Drop person role) =
    let p = person_number s.persons person in
    let r = role_number unit role in
    too_early s moment ∷ unless_found p UnknownPerson ∷ unless_found r UnknownRole
    ∷ provided (of_both (λ role person. not (holds_role s.persons role person)) r p) NotHeld
    ∷ shortage_cause unit (shortage_for unit s r p) ∷ []
causes unit s moment Start =
    too_early s moment ∷ provided (is_started s) StartedAlready ∷ shortage_cause unit (short_at_start unit s.persons) ∷ []
causes unit s moment (Open person activity) =
    too_early s moment ∷ not_started s ∷ unless_found (person_number s.persons person) UnknownPerson
    ∷ unless_found (activity_found unit activity) UnknownActivity ∷ []
causes unit s moment (Complete person activity) =
    too_early s moment ∷ not_started s ∷ unless_found (person_number s.persons person) UnknownPerson
    ∷ unless_found (activity_found unit activity) UnknownActivity
    ∷ provided (is_some_and (λ one. not (is_by_choice one.activity)) (activity_found unit activity)) NotByChoice
    ∷ []
causes unit s moment (Set person property text) =
    let p = person_number s.persons person in
    let found = property_found unit property in
    too_early s moment ∷ not_started s ∷ unless_found p UnknownPerson ∷ unless_found found UnknownProperty
    ∷ provided (is_some_and (λ one. not (is_some (fitting one.property text))) found) BadValue
    ∷ provided (is_barred unit s p found) NotAllowed ∷ []
causes unit s moment (Clear person property) =
    let p = person_number s.persons person in
    let found = property_found unit property in
    too_early s moment ∷ not_started s ∷ unless_found p UnknownPerson ∷ unless_found found UnknownProperty
    ∷ provided (is_barred unit s p found) NotAllowed ∷ []
causes unit s moment (Get person property) =
    too_early s moment ∷ not_started s ∷ unless_found (person_number s.persons person) UnknownPerson
    ∷ unless_found (property_found unit property) UnknownProperty ∷ []
causes unit s moment (Tree person) =
    too_early s moment ∷ not_started s ∷ unless_found (person_number s.persons person) UnknownPerson ∷ []
causes unit s moment (Outbox person) =
    too_early s moment ∷ not_started s ∷ unless_found (person_number s.persons person) UnknownPerson ∷ []
causes unit s moment Report = too_early s moment ∷ not_started s ∷ []
causes unit s moment Tick = too_early s moment ∷ not_started s ∷ []
causes unit s moment Next = too_early s moment ∷ not_started s ∷ []
