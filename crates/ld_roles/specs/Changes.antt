-- What a change was before it.
use Rattle.std.specs.Prelude.{◌-◌, ◌<◌, List, take, length, true, false, Option, option_map}
use Rattle.ld_roles.specs.Kept.{PersonRow, RosterView}
use Rattle.ld_roles.specs.Persons.{changed_at}
use Rattle.ld_roles.specs.Seats.{Seated, with_held}
use Rattle.ld_roles.specs.declared.change.Change.{Change}
use Rattle.ld_roles.specs.declared.change.Change.TheVariants.{Nothing, Enrolled, Gave, Took}

-- The persons as they were before the change.
abbrev pub persons_before : Change → List PersonRow → List PersonRow
persons_before Nothing rows = rows
persons_before Enrolled rows = take (length rows - 1) rows
persons_before (Gave p role) rows = changed_at (with_held role false) p rows
persons_before (Took p role) rows = changed_at (with_held role true) p rows

-- The change can be rolled back.
abbrev pub IsUndoable : Seated → Change → Type 0
IsUndoable seats Nothing = Unit {0}
IsUndoable seats Enrolled = 0 < length seats.rows
IsUndoable seats (Gave p role) = (p < length seats.rows) × (role < length seats.roles)
IsUndoable seats (Took p role) = (p < length seats.rows) × (role < length seats.roles)

-- What contracts see of a roster that is kept so.
abbrev pub roster_of : Seated → Option Change → RosterView
roster_of seats since = record {
  roles = seats.roles;
  rows = seats.rows;
  kept = option_map (λ change. persons_before change seats.rows) since;
}
