-- What a call of the roster is refused for.
use Rattle.std.specs.Prelude.{ℕ, List, length, Option, Some, None, Bool, true, false, not, is_some, nat_le, if◌then◌else◌}
use Rattle.std.specs.Option.{option_map}
use Rattle.ld_roles.specs.Membership.{Shortage, has_no_room_among, is_excluded_among, short_once_dropped_among}
use Rattle.ld_roles.specs.Persons.{Persons, person_number, holds_role}
use Rattle.ld_roles.specs.RoleBounds.{RoleBounds}
use Rattle.ld_roles.specs.declared.fault.EnrolFault.{EnrolFault}
use Rattle.ld_roles.specs.declared.fault.EnrolFault.TheVariants.{PersonExists, RunFull}
use Rattle.ld_roles.specs.declared.fault.AssignFault.{AssignFault}
use Rattle.ld_roles.specs.declared.fault.AssignFault.TheVariants.{HoldsAlready, RoleFull, RoleExclusive}
use Rattle.ld_roles.specs.declared.fault.DropFault.{DropFault}
use Rattle.ld_roles.specs.declared.fault.DropFault.TheVariants.{NotHeld, RoleShort}
use Rattle.ld_roles.specs.declared.fault.Short.{Short}

-- Why the person is not enrolled in a run with this many seats.
abbrev pub enrol_fault : ℕ → Persons → List ℕ → Option EnrolFault
enrol_fault seats persons name =
    if is_some (person_number persons name) then Some PersonExists
    else (if nat_le seats (length persons) then Some RunFull else None)

-- Why the person is not given the role.
abbrev pub assign_fault : List RoleBounds → Persons → ℕ → ℕ → Option AssignFault
assign_fault roles persons role p =
    if holds_role persons role p then Some HoldsAlready
    else (if has_no_room_among roles persons role p then Some RoleFull
    else (if is_excluded_among roles persons role p then Some RoleExclusive else None))

-- A role that is short of members, as code has it.
abbrev pub short_of : Shortage → Short
short_of s = record { role = record { 0 = s.role }; count = s.count; least = s.least }

-- The role that would be short once the role is dropped; before the run is started none is asked for.
abbrev pub short_if_started : List RoleBounds → Persons → ℕ → ℕ → Bool → Option Short
short_if_started roles persons role p true =
    option_map short_of (short_once_dropped_among roles persons role p)
short_if_started roles persons role p false = None

-- Why the person does not drop the role.
abbrev pub drop_fault : List RoleBounds → Persons → ℕ → ℕ → Bool → Option DropFault
drop_fault roles persons role p started =
    if not (holds_role persons role p) then Some NotHeld
    else option_map RoleShort (short_if_started roles persons role p started)
