-- Who is a member of which role, and what stands against an assignment, by the bounds of the roles.
use Rattle.std.specs.Prelude.{ℕ, List, count_by, filter_map, Option, Bool, true, false, ◌&&◌, not, nat_eq, nat_lt, nat_le, slice_get}
use Rattle.std.specs.List.{list_any}
use Rattle.ld_base.specs.Maybe.{◌>>=◌, provided}
use Rattle.ld_model.specs.declared.role.MatchPersons.{MatchPersons}
use Rattle.ld_model.specs.declared.role.MatchPersons.TheVariants.{ExclusivelyInRoles, NotExclusively}
use Rattle.ld_roles.specs.Persons.{PersonState, Persons, with_role, changed_at}
use Rattle.ld_roles.specs.RoleBounds.{RoleBounds}
use Rattle.ld_expr.specs.Lookup.{is_some_and}
use Rattle.ld_roles.specs.RoleTree.{role_numbers, with_inner, is_within, outwards, child_roles}

-- The person is a member of the role: the person holds it, or a role within it.
abbrev pub is_member_by : List RoleBounds → PersonState → ℕ → Bool
is_member_by roles person role = list_any person.holds (with_inner roles role)

-- The person of this number is a member of the role.
abbrev pub is_member_among : List RoleBounds → Persons → ℕ → ℕ → Bool
is_member_among roles persons role p =
    is_some_and (λ person. is_member_by roles person role) (slice_get persons p)

-- How many members the role has, each counted once.
abbrev pub member_count : List RoleBounds → Persons → ℕ → ℕ
member_count roles persons role = count_by (λ person. is_member_by roles person role) persons

-- ---- what stands against an assignment

-- The role has as many members as it may have, or more; one without a greatest number is never full.
abbrev pub is_full : List RoleBounds → Persons → ℕ → Bool
is_full roles persons role = is_some_and
    (λ row. is_some_and (λ most. nat_le most (member_count roles persons role)) row.max_persons)
    (slice_get roles role)

-- The role, or one that it stands within, is full, and the person is not yet a member of it.
abbrev pub has_no_room_among : List RoleBounds → Persons → ℕ → ℕ → Bool
has_no_room_among roles persons role p =
    list_any
    (λ outer. not (is_member_among roles persons outer p) && is_full roles persons outer)
    (outwards roles role)

-- A person may not be in several of the roles directly within the role.
abbrev pub is_exclusive : MatchPersons → Bool
is_exclusive ExclusivelyInRoles = true
is_exclusive NotExclusively = false

-- The role is one of the children or within it, and the person is a member of another child.
abbrev pub is_split : List RoleBounds → Persons → ℕ → ℕ → List ℕ → Bool
is_split roles persons role p children = list_any
    (λ child. is_within roles child role
    && list_any
    (λ other. not (nat_eq other child) && is_member_among roles persons other p)
    children)
    children

-- The role keeps its members in one child.
abbrev pub keeps_in_one : List RoleBounds → ℕ → Bool
keeps_in_one roles role = is_some_and (λ row. is_exclusive row.match_persons) (slice_get roles role)

-- Some role keeps its members in one child, and the person would be in two.
abbrev pub is_excluded_among : List RoleBounds → Persons → ℕ → ℕ → Bool
is_excluded_among roles persons role p = list_any
    (λ outer. keeps_in_one roles outer && is_split roles persons role p (child_roles roles outer))
    (role_numbers roles)

-- ---- roles with too few members

-- A role, how many members it has, and how many it needs.
pub record Shortage : Type 0 where
  pub role : ℕ
  pub count : ℕ
  pub least : ℕ

-- The role's shortage, if it has fewer members than it needs.
abbrev pub shortage_of : List RoleBounds → Persons → ℕ → Option Shortage
shortage_of roles persons role = do
  row ← slice_get roles role
  provided (nat_lt (member_count roles persons role) row.min_persons)
      (record { role = role; count = member_count roles persons role; least = row.min_persons })

-- The first of the roles that has too few.
abbrev pub first_short : List RoleBounds → Persons → List ℕ → Option Shortage
first_short roles persons numbers = slice_get (filter_map (shortage_of roles persons) numbers) 0

-- At the start: of all roles.
abbrev pub short_at_start_among : List RoleBounds → Persons → Option Shortage
short_at_start_among roles persons = first_short roles persons (role_numbers roles)

-- The persons, once the person has dropped the role.
abbrev pub dropped : Persons → ℕ → ℕ → Persons
dropped persons role p = changed_at (with_role role false) p persons

-- Once the role is dropped: of the role and those that it stands within.
abbrev pub short_once_dropped_among : List RoleBounds → Persons → ℕ → ℕ → Option Shortage
short_once_dropped_among roles persons role p =
    first_short roles (dropped persons role p) (outwards roles role)
