-- What the roster refuses, the checks refuse, and with the same.
use Rattle.std.proofs.Common.{◌≡◌, refl, sym, ap, ◌∙◌, ℕ, ◌<◌, ◌≤◌, List, [], length, map, Option, Some, None, Bool, true, false, not, nat_lt, slice_get, unwrap_or, Ok, Err, if◌then◌else◌}
use Rattle.std.proofs.lemmas.Bool.{le-leb, lt-leb}
use Rattle.std.proofs.lemmas.List.{length-map}
use Rattle.std.proofs.lemmas.Option.{slice_get_within, slice_get-map}
use Rattle.std.specs.Option.{option_map}
use Rattle.ld_base.specs.Maybe.{◌>>=◌, provided}
use Rattle.ld_model.specs.RoleRows.{RoleRow}
use Rattle.ld_model.specs.Roles.{roles_of}
use Rattle.ld_model.specs.declared.unit.Unit.{Unit}
use Rattle.ld_roles.specs.Membership.{Shortage, dropped, first_short, shortage_of, member_count}
use Rattle.ld_roles.specs.Persons.{Persons, holds_role, person_number}
use Rattle.ld_roles.specs.Refusals.{assign_fault, drop_fault, enrol_fault, short_if_started, short_of}
use Rattle.ld_roles.specs.RoleBounds.{RoleBounds, bounds_of, role_bounds}
use Rattle.ld_roles.specs.RoleTree.{outwards, role_numbers}
use Rattle.ld_roles.specs.Roster.{has_no_room, is_excluded, short_at_start, short_once_dropped}
use Rattle.ld_roles.specs.declared.fault.AssignFault.{AssignFault}
use Rattle.ld_roles.specs.declared.fault.AssignFault.TheVariants as assigned
use Rattle.ld_roles.specs.declared.fault.DropFault.{DropFault}
use Rattle.ld_roles.specs.declared.fault.DropFault.TheVariants as taken
use Rattle.ld_roles.specs.declared.fault.Short.{Short}
use Rattle.ld_state.specs.RunState.{RunState}
use Rattle.ld_state.proofs.Elements.{in_stands, none_is_some, some_same}
use Rattle.ld_firing.proofs.Found.{given_by}
use Rattle.ld_admission.specs.CheckStages.{Rest, assigning, dropping, enrolling}
use Rattle.ld_admission.specs.Checks.{is_started, none_short, role_identifier, shortage_if_running}
use Rattle.ld_admission.specs.Refusals.{PersonExists, RunFull, HoldsAlready, NotHeld, RoleFull, RoleExclusive, RoleShort, NoMemory, ◌>>◌, refuse_if}

-- ---- a person who joins

pub exists_already : (s : RunState) (name : List ℕ) (n : ℕ) (next : Rest) → person_number s.persons name ≡ Some n → enrolling s name next ≡ Err PersonExists
exists_already s name n next there = rw there refl

pub seats_taken : (s : RunState) (name : List ℕ) (next : Rest) → person_number s.persons name ≡ None → s.seats ≤ length s.persons → enrolling s name next ≡ Err RunFull
seats_taken s name next none full = rw (none, le-leb s.seats (length s.persons) full) refl

pub may_join : (s : RunState) (name : List ℕ) (next : Rest) → person_number s.persons name ≡ None → length s.persons < s.seats → enrolling s name next ≡ next
may_join s name next none room = rw (none, lt-leb s.seats (length s.persons) room) refl

pub no_fault : (s : RunState) (name : List ℕ) → person_number s.persons name ≡ None → length s.persons < s.seats → enrol_fault s.seats s.persons name ≡ None
no_fault s name none room = rw (none, lt-leb s.seats (length s.persons) room) refl

-- ---- a role that is given

-- What becomes of the checks by what the roster answers.
abbrev pub once_assigned : Option AssignFault → Rest → Rest
once_assigned None next = next
once_assigned (Some assigned.HoldsAlready) next = Err HoldsAlready
once_assigned (Some assigned.RoleFull) next = Err RoleFull
once_assigned (Some assigned.RoleExclusive) next = Err RoleExclusive
once_assigned (Some assigned.NoMemory) next = Err NoMemory

pub same_assigning : (unit : Unit) (s : RunState) (role p : ℕ) (next : Rest) → assigning unit s role p next ≡ once_assigned (assign_fault (role_bounds unit) s.persons role p) next
same_assigning unit s role p next =
    by (holds_role s.persons role p) (has_no_room unit s.persons role p) (is_excluded unit s.persons role p)
  where
    by : (holds full apart : Bool)
        → (refuse_if holds HoldsAlready >> (refuse_if full RoleFull >> (refuse_if apart RoleExclusive >> next)))
        ≡ once_assigned (if holds then Some assigned.HoldsAlready else (if full then Some assigned.RoleFull else (if apart then Some assigned.RoleExclusive else None))) next
    by true full apart = refl
    by false true apart = refl
    by false false true = refl
    by false false false = refl

-- ---- a role that is taken

abbrev pub once_dropped : Unit → Option DropFault → Rest → Rest
once_dropped unit None next = next
once_dropped unit (Some taken.NotHeld) next = Err NotHeld
once_dropped unit (Some (taken.RoleShort short)) next =
    Err (RoleShort (role_identifier unit short.role.0) short.count short.least)

pub same_dropping : (unit : Unit) (s : RunState) (role p : ℕ) (next : Rest) → dropping unit s role p next ≡ once_dropped unit (drop_fault (role_bounds unit) s.persons role p (is_started s)) next
unfolding dropping
same_dropping unit s role p next = by (holds_role s.persons role p) (is_started s)
  where
    short : (o : Option Shortage) → (none_short unit o >> next) ≡ once_dropped unit (option_map taken.RoleShort (option_map short_of o)) next
    short None = refl
    short (Some one) = refl

    by : (holds started : Bool)
        → (refuse_if (not holds) NotHeld >> (none_short unit (shortage_if_running unit s role p started) >> next))
        ≡ once_dropped unit (if not holds then Some taken.NotHeld else option_map taken.RoleShort (short_if_started (role_bounds unit) s.persons role p started)) next
    by false started = refl
    by true false = refl
    by true true = short (short_once_dropped unit s.persons role p)

-- Who may drop a role holds it.
pub held_by_dropper : (roles : List RoleBounds) (persons : Persons) (role p : ℕ) (started : Bool) → drop_fault roles persons role p started ≡ None → holds_role persons role p ≡ true
held_by_dropper roles persons role p started none = by (holds_role persons role p) none
  where
    by : (holds : Bool) → (if not holds then Some taken.NotHeld else option_map taken.RoleShort (short_if_started roles persons role p started)) ≡ None → holds ≡ true
    by true none = refl
    by false none = absurd (cc)

-- ---- a role that is short of members

-- It is one of the roles.
short_there : (roles : List RoleBounds) (persons : Persons) (numbers : List ℕ) (short : Shortage) → first_short roles persons numbers ≡ Some short → short.role < length roles
short_there roles persons numbers short is =
    let found = given_by (shortage_of roles persons) numbers short (in_stands _ 0 short is) in
    of_row found.element (slice_get roles found.element) refl found.gives
  where
    provided_is : (role : ℕ) (row : RoleBounds) → slice_get roles role ≡ Some row → (b : Bool) (least : ℕ)
        → provided b (record { role = role; count = member_count roles persons role; least = least }) ≡ Some short
        → short.role < length roles
    provided_is role row at true least gives =
        let same : role ≡ short.role = ap (λ (s : Shortage). s.role) (some_same gives) in
        rw (sym same) (slice_get_within roles role row at)
    provided_is role row at false least gives = none_is_some gives

    of_row : (role : ℕ) (found : Option RoleBounds) → slice_get roles role ≡ found
        → (found >>= λ row. provided (nat_lt (member_count roles persons role) row.min_persons) (record { role = role; count = member_count roles persons role; least = row.min_persons })) ≡ Some short
        → short.role < length roles
    of_row role None at gives = none_is_some gives
    of_row role (Some row) at gives =
        provided_is role row at (nat_lt (member_count roles persons role) row.min_persons) row.min_persons gives

short_within : (roles : List RoleBounds) (persons : Persons) (numbers : List ℕ) (short : Short) → option_map short_of (first_short roles persons numbers) ≡ Some short → short.role.0 < length roles
short_within roles persons numbers short is = by (first_short roles persons numbers) refl is
  where
    by : (o : Option Shortage) → first_short roles persons numbers ≡ o → option_map short_of o ≡ Some short → short.role.0 < length roles
    by None at is = none_is_some is
    by (Some one) at is =
        let same : one.role ≡ short.role.0 = ap (λ (s : Short). s.role.0) (some_same is) in
        rw (sym same) (short_there roles persons numbers one at)

roles_counted : (unit : Unit) → length (role_bounds unit) ≡ length (roles_of unit)
roles_counted unit = length-map (roles_of unit) bounds_of

pub short_role_at_start : (unit : Unit) (persons : Persons) (short : Short) → option_map short_of (short_at_start unit persons) ≡ Some short → short.role.0 < length (roles_of unit)
short_role_at_start unit persons short is =
    rw (sym (roles_counted unit)) (short_within (role_bounds unit) persons (role_numbers (role_bounds unit)) short is)

pub short_role_once_dropped : (unit : Unit) (persons : Persons) (role p : ℕ) (started : Bool) (short : Short) → drop_fault (role_bounds unit) persons role p started ≡ Some (taken.RoleShort short) → short.role.0 < length (roles_of unit)
short_role_once_dropped unit persons role p started short is =
    rw (sym (roles_counted unit)) (by (holds_role persons role p) started is)
  where
    told : (o : Option Short) → option_map taken.RoleShort o ≡ Some (taken.RoleShort short) → o ≡ Some short
    told None is = none_is_some is
    told (Some one) is = cc

    by : (holds started : Bool)
        → (if not holds then Some taken.NotHeld else option_map taken.RoleShort (short_if_started (role_bounds unit) persons role p started)) ≡ Some (taken.RoleShort short)
        → short.role.0 < length (role_bounds unit)
    by false started is = absurd (cc)
    by true false is = none_is_some is
    by true true is =
        short_within (role_bounds unit) (dropped persons role p) (outwards (role_bounds unit) role) short (told _ is)

pub none_short_by : (unit : Unit) (o : Option Shortage) (short : Short) → Some short ≡ option_map short_of o → none_short unit o ≡ Err (RoleShort (role_identifier unit short.role.0) short.count short.least)
none_short_by unit None short is = absurd (cc)
none_short_by unit (Some one) short is =
    sym (ap (λ (s : Short). Err (RoleShort (role_identifier unit s.role.0) s.count s.least)) (some_same is))

pub none_short_at_all : (unit : Unit) (o : Option Shortage) → None ≡ option_map short_of o → none_short unit o ≡ Ok tt
none_short_at_all unit None is = refl
none_short_at_all unit (Some one) is = absurd (cc)

-- The identifier of the role of this number.
pub identifier_is : (unit : Unit) (r : ℕ) (id : List ℕ) → Some id ≡ slice_get (map (λ (row : RoleRow). row.identifier) (roles_of unit)) r → id ≡ role_identifier unit r
identifier_is unit r id is =
    ap (λ o. unwrap_or o []) (is ∙ slice_get-map (λ (row : RoleRow). row.identifier) (roles_of unit) r)
