-- What contracts see of a roster.
use Rattle.std.specs.Prelude.{◌≡◌, ℕ, List, map, Option, Bool, false, slice_index_or, IfSome}
use Rattle.ld_roles.specs.Persons.{PersonState, Persons}
use Rattle.ld_roles.specs.RoleBounds.{RoleBounds}

-- A person, and of each role whether the person holds it.
pub record PersonRow : Type 0 where
  pub name : List ℕ
  pub held : List Bool

-- The bounds of the unit's roles, the persons in the order of enrolment, and the persons at the savepoint,
-- if there is one.
pub record RosterView : Type 0 where
  pub roles : List RoleBounds
  pub rows : List PersonRow
  pub kept : Option (List PersonRow)

-- Whether the role is held.
abbrev pub held_in : List Bool → ℕ → Bool
held_in held role = slice_index_or held role false

-- The person of the row, with the set of the roles that the person holds.
abbrev pub person_of : PersonRow → PersonState
person_of row = record { name = row.name; holds = held_in row.held }

-- The persons of the rows, in the same order.
abbrev pub persons_of : List PersonRow → Persons
persons_of rows = map person_of rows

-- There is no savepoint, or all is as it was at the savepoint.
abbrev pub IsAsSaved : RosterView → Type 0
IsAsSaved roster = IfSome roster.kept (λ kept. kept ≡ roster.rows)
