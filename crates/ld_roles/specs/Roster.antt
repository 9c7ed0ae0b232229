-- Who is a member of which role of a unit, and what stands against an assignment.
pub use Rattle.ld_roles.specs.Persons.{PersonState, Persons, person_number, newcomer, with_role, changed_at, holds_role}
pub use Rattle.ld_roles.specs.Membership.{Shortage}
use Rattle.std.specs.Prelude.{ℕ, Option, Bool}
use Rattle.ld_model.specs.declared.unit.Unit.{Unit}
use Rattle.ld_roles.specs.Membership.{is_member_among, has_no_room_among, is_excluded_among, short_at_start_among, short_once_dropped_among}
use Rattle.ld_roles.specs.RoleBounds.{role_bounds}

-- The person of this number is a member of the unit's role of this number.
abbrev pub is_member_in : Unit → Persons → ℕ → ℕ → Bool
is_member_in unit persons role p = is_member_among (role_bounds unit) persons role p

-- The role, or one that it stands within, is full, and the person is not yet a member of that one.
abbrev pub has_no_room : Unit → Persons → ℕ → ℕ → Bool
has_no_room unit persons role p = has_no_room_among (role_bounds unit) persons role p

-- Some role keeps its members in one child, and the person, by holding this role, would be in two.
abbrev pub is_excluded : Unit → Persons → ℕ → ℕ → Bool
is_excluded unit persons role p = is_excluded_among (role_bounds unit) persons role p

-- At the start of the run: the first of the unit's roles that has too few members, if one has.
abbrev pub short_at_start : Unit → Persons → Option Shortage
short_at_start unit persons = short_at_start_among (role_bounds unit) persons

-- Once the person has dropped the role: the first that has too few members, from the role outwards.
abbrev pub short_once_dropped : Unit → Persons → ℕ → ℕ → Option Shortage
short_once_dropped unit persons role p = short_once_dropped_among (role_bounds unit) persons role p
