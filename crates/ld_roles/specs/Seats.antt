-- How a roster keeps the persons.
use Rattle.std.specs.Prelude.{◌≡◌, ◌≤◌, ℕ, List, [], ◌∷◌, Option, None, Some, All, length, map, replicate, set, Bool, false, nat_eq, if◌then◌else◌}
use Rattle.std.specs.List.{list_any}
use Rattle.ld_roles.specs.Kept.{PersonRow, held_in}
use Rattle.ld_roles.specs.RoleBounds.{RoleBounds}
use Rattle.ld_roles.specs.RoleTree.{role_numbers, with_inner}
use Rattle.ld_roles.specs.declared.limit.TheConstants.{SEATS}
use Rattle.ld_roles.specs.declared.seat.Seat.{Seat}

-- Whether one who holds these is a member of the role.
abbrev pub is_member_with : List RoleBounds → List Bool → ℕ → Bool
is_member_with roles held role = list_any (held_in held) (with_inner roles role)

-- The same roles are held, but not this one.
abbrev pub without : ℕ → (ℕ → Bool) → ℕ → Bool
without role holds other = if nat_eq other role then false else holds other

-- Of each role it is noted whether it is held, and whether the person is thereby a member.
pub record IsSeated (roles : List RoleBounds) (seat : Seat) : Type 0 where
  pub count : length seat.holds.items ≡ length roles
  pub member : seat.member.items ≡ map (is_member_with roles seat.holds.items) (role_numbers roles)

-- The roles and the persons of a run.
pub record Seated : Type 0 where
  pub roles : List RoleBounds
  pub rows : List PersonRow

-- The person of this name in this seat, and of each role whether the person holds it.
abbrev pub row_of : List ℕ × Seat → PersonRow
row_of entry = record { name = entry.0; held = entry.1.holds.items }

-- The first person, if there is one, and the others.
abbrev pub seated_in : Option (List ℕ × Seat) → List (List ℕ × Seat) → List (List ℕ × Seat)
seated_in None others = others
seated_in (Some first) others = first ∷ others

-- One who holds none of the roles.
abbrev pub new_row : List RoleBounds → List ℕ → PersonRow
new_row roles name = record { name = name; held = replicate (length roles) false }

-- The person with the role held, or not.
abbrev pub with_held : ℕ → Bool → PersonRow → PersonRow
with_held role held row = record { name = row.name; held = set row.held role held }

-- All are seated, the first one before the others, and no more than there are seats.
pub record IsSeating (roles : List RoleBounds) (first : Option (List ℕ × Seat)) (others : List (List ℕ × Seat)) : Type 0 where
  pub in_order : first ≡ None → others ≡ []
  pub seated : All (λ entry. IsSeated roles entry.1) (seated_in first others)
  pub few : length (seated_in first others) ≤ SEATS
