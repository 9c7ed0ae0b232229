-- What contracts see of the state of a run.
use Rattle.std.specs.Prelude.{◌≡◌, ◌<◌, ◌+◌, ◌^◌, ℕ, pos, List, ◌∷◌, length, map, filter, filter_map, take, not, Option, Some, None, Bool, true, false, is_some, IfSome}
use Rattle.std.specs.Option.{option_map}
use Rattle.ld_base.specs.Maybe.{◌>>=◌}
use Rattle.ld_base.specs.Numbers.{numbers_below}
use Rattle.ld_value.specs.Datum.{Datum, truth_datum, number_datum, same_truth}
use Rattle.ld_cells.specs.Stored.{Kept, held_at}
use Rattle.ld_model.specs.Cells.{CellMap}
use Rattle.ld_model.specs.declared.cell.CellName.{CellName}
use Rattle.ld_model.specs.declared.cell.CellName.TheVariants.{Prop, Vis, Member, Chosen, Opened, ActOpened, Started, Mark, Now, Roster}
use Rattle.ld_model.specs.declared.unit.Unit.{Unit}
use Rattle.ld_expr.specs.Seen.{Seen, member_cell}
use Rattle.ld_roles.specs.Kept.{PersonRow, persons_of}
use Rattle.ld_roles.specs.Membership.{is_member_among}
use Rattle.ld_roles.specs.RoleBounds.{RoleBounds, role_bounds}
use Rattle.ld_roles.specs.declared.limit.TheConstants.{SEATS}
use Rattle.ld_state.specs.Layout.{Layout, layout_of, cell_for, cells_in, slot_in}
use Rattle.ld_state.specs.RunState.{RunState, NoticeState}

-- What `undo` gives back: persons, notices and cells at the savepoint, and the spare there.
pub record Earlier : Type 0 where
  pub rows : List PersonRow
  pub outbox : List NoticeState
  pub cells : List (Option Datum)
  pub spare : ℕ

-- In which order the cells stand; the bounds of the roles; the persons in the order of enrolment; the
-- notices from the oldest on; the cells by slot; what is kept at the savepoint, if there is one; and how many
-- writes are sure not to be refused.
pub record StateView : Type 0 where
  pub layout : Layout
  pub roles : List RoleBounds
  pub rows : List PersonRow
  pub outbox : List NoticeState
  pub cells : List (Option Datum)
  pub kept : Option Earlier
  pub spare : ℕ

-- What the cell holds among cells in this order; none where there is no such cell.
abbrev pub cell_value_at : Layout → ℕ → List (Option Datum) → CellMap
cell_value_at layout persons cells name = slot_in layout persons name >>= held_at cells

-- The same values, but none of what follows from the persons.
abbrev pub own_values : CellMap → CellMap
own_values cells (Member r p) = None
own_values cells Roster = None
own_values cells (Prop n owner) = cells (Prop n owner)
own_values cells (Vis t p) = cells (Vis t p)
own_values cells (Chosen t owner) = cells (Chosen t owner)
own_values cells (Opened t owner) = cells (Opened t owner)
own_values cells (ActOpened t) = cells (ActOpened t)
own_values cells Started = cells Started
own_values cells (Mark r owner) = cells (Mark r owner)
own_values cells Now = cells Now

-- The run that has these persons, notices and cells.
abbrev pub run_with : Layout → List PersonRow → List NoticeState → List (Option Datum) → RunState
run_with layout rows outbox cells = record {
  seats = SEATS;
  persons = persons_of rows;
  outbox = outbox;
  cells = own_values (cell_value_at layout (length rows) cells);
}

-- The run as it is now.
abbrev pub run_of : StateView → RunState
run_of s = run_with s.layout s.rows s.outbox s.cells

-- The run at the savepoint.
abbrev pub run_before : StateView → Option RunState
run_before s = option_map (λ kept. run_with s.layout kept.rows kept.outbox kept.cells) s.kept

-- The same state with a savepoint, at which all is kept.
abbrev pub with_savepoint : StateView → StateView
with_savepoint s = record s {
  kept = Some (record { rows = s.rows; outbox = s.outbox; cells = s.cells; spare = s.spare });
}

-- ---- reading

-- There is a cell of this name, with the persons that there are.
abbrev pub has_cell : StateView → CellName → Bool
has_cell s name = is_some (slot_in s.layout (length s.rows) name)

-- What the slot of a cell shows, where what `Member` and `Roster` name follows from the persons.
abbrev pub seen_in_slot : StateView → CellName → ℕ → Option Datum
seen_in_slot s (Member r p) slot = Some (truth_datum (is_member_among s.roles (persons_of s.rows) r.0 p.0))
seen_in_slot s Roster slot = Some (number_datum (pos (length s.rows)))
seen_in_slot s (Prop _ _) slot = held_at s.cells slot
seen_in_slot s (Vis _ _) slot = held_at s.cells slot
seen_in_slot s (Chosen _ _) slot = held_at s.cells slot
seen_in_slot s (Opened _ _) slot = held_at s.cells slot
seen_in_slot s (ActOpened _) slot = held_at s.cells slot
seen_in_slot s Started slot = held_at s.cells slot
seen_in_slot s (Mark _ _) slot = held_at s.cells slot
seen_in_slot s Now slot = held_at s.cells slot

-- What is seen of the state. A cell that it has not has no value.
abbrev pub seen_of : StateView → Seen
seen_of s = record {
  persons = length s.rows;
  value = λ name. slot_in s.layout (length s.rows) name >>= seen_in_slot s name;
}

-- The cell's value follows from the persons.
abbrev pub is_following : CellName → Bool
is_following (Member r p) = true
is_following Roster = true
is_following (Prop n owner) = false
is_following (Vis t p) = false
is_following (Chosen t owner) = false
is_following (Opened t owner) = false
is_following (ActOpened t) = false
is_following Started = false
is_following (Mark r owner) = false
is_following Now = false

-- ---- what is always so

-- Cells and roles are those of the unit.
pub record IsStateOf (unit : Unit) (s : StateView) : Type 0 where
  pub layout : s.layout ≡ layout_of unit
  pub roles : s.roles ≡ role_bounds unit

-- There is no savepoint, or no person has joined since, and no role was given or taken.
abbrev pub HasSavedPersons : StateView → Type 0
HasSavedPersons s = IfSome s.kept (λ kept. kept.rows ≡ s.rows)

-- There is a value for each cell, and what follows from the persons is kept so.
pub record IsFollowing (layout : Layout) (roles : List RoleBounds) (rows : List PersonRow) (cells : List (Option Datum)) : Type 0 where
  pub count : length cells ≡ length (cells_in layout (length rows))
  pub few : length cells < 2 ^ 32
  pub roster :
      (slot : ℕ) → slot_in layout (length rows) Roster ≡ Some slot
      → held_at cells slot ≡ Some (number_datum (pos (length rows)))
  pub member :
      (r p slot : ℕ) → slot_in layout (length rows) (member_cell r p) ≡ Some slot
      → held_at cells slot ≡ Some (truth_datum (is_member_among roles (persons_of rows) r p))

-- What is kept at the savepoint of each part.
abbrev pub kept_by : Option Kept → Option (List PersonRow) → Option ℕ → List NoticeState → Option Earlier
kept_by cells persons sent outbox = do
  at ← cells
  rows ← persons
  count ← sent
  Some (record { rows = rows; outbox = take count outbox; cells = at.cells; spare = at.spare })

-- ---- what is told when persons join, or when they get or lose a role

-- The slots of these cells, in a run with this many persons.
abbrev pub slots_among : Layout → ℕ → List CellName → List ℕ
slots_among layout persons cells = filter_map (slot_in layout persons) cells

-- Where one more person joins: the slot of `Roster`, and those of the newcomer's cells in their order.
abbrev pub slots_of_newcomer : StateView → List ℕ
slots_of_newcomer s =
    let newcomer = length s.rows in
    slots_among s.layout (newcomer + 1) (Roster ∷ map (cell_for newcomer) s.layout.own)

-- The roles of which the person is a member in one of the two states alone, in their order.
abbrev pub roles_changed : StateView → StateView → ℕ → List ℕ
roles_changed s t p = filter
    (λ r. not (same_truth
    (is_member_among s.roles (persons_of s.rows) r p)
    (is_member_among t.roles (persons_of t.rows) r p)))
    (numbers_below (length s.roles))

-- The slots of the person's `Member` cells of those roles, in their order.
abbrev pub slots_of_membership : StateView → StateView → ℕ → List ℕ
slots_of_membership s t p =
    slots_among s.layout (length s.rows) (map (λ r. member_cell r p) (roles_changed s t p))
