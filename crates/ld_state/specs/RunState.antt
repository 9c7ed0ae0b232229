-- The state of a run, and what is seen of it.
use Rattle.std.specs.Prelude.{ℕ, ℤ, pos, List, [], ◌∷◌, ◌++◌, length, Option, Some, None, Bool, false, ◌&&◌, nat_eq, nat_lt, if◌then◌else◌}
use Rattle.ld_base.specs.Maybe.{provided}
use Rattle.ld_value.specs.Datum.{Datum, truth_datum, number_datum}
use Rattle.ld_model.specs.Cells.{CellMap, put_cell}
use Rattle.ld_model.specs.declared.cell.CellName.{CellName}
use Rattle.ld_model.specs.declared.cell.CellName.TheVariants.{Prop, Vis, Member, Chosen, Opened, ActOpened, Started, Mark, Now, Roster}
use Rattle.ld_model.specs.declared.cell.Owner.{Owner}
use Rattle.ld_model.specs.declared.cell.Owner.TheVariants.{Run, Person}
use Rattle.ld_model.specs.declared.unit.Unit.{Unit}
use Rattle.ld_expr.specs.Seen.{Seen}
use Rattle.ld_roles.specs.RoleBounds.{role_bounds}
use Rattle.ld_roles.specs.Roster.{Persons, is_member_in, newcomer, with_role, changed_at}
use Rattle.ld_state.specs.RunCells.{begins_as, is_kept_by_run, is_kept_for_persons}
use Rattle.ld_state.specs.GlobalValues.{GlobalValues}

-- A notice: when it was sent, its subject, the number of its activity, and the numbers of the persons whom
-- it reaches, in the order of enrolment.
pub record NoticeState : Type 0 where
  pub moment : ℤ
  pub subject : List ℕ
  pub activity : Option ℕ
  pub to : List ℕ

-- How many persons the run has seats for, the persons in the order of enrolment, the notices from the
-- oldest on, and the values of the cells.
pub record RunState : Type 0 where
  pub seats : ℕ
  pub persons : Persons
  pub outbox : List NoticeState
  pub cells : CellMap

-- Whether the person is a member of the role; there is no such value of a role or a person that there is not.
abbrev pub membership_of : Unit → Persons → ℕ → ℕ → Option Datum
membership_of unit persons r p =
    provided (nat_lt r (length (role_bounds unit)) && nat_lt p (length persons))
    (truth_datum (is_member_in unit persons r p))

-- The value of a cell. What `Member` and `Roster` name follows from the persons.
unfoldable pub cell_of : Unit → RunState → CellName → Option Datum
cell_of unit s (Member r p) = membership_of unit s.persons r.0 p.0
cell_of unit s Roster = Some (number_datum (pos (length s.persons)))
cell_of unit s (Prop p owner) = s.cells (Prop p owner)
cell_of unit s (Vis t p) = s.cells (Vis t p)
cell_of unit s (Chosen t owner) = s.cells (Chosen t owner)
cell_of unit s (Opened t owner) = s.cells (Opened t owner)
cell_of unit s (ActOpened t) = s.cells (ActOpened t)
cell_of unit s Started = s.cells Started
cell_of unit s (Mark r owner) = s.cells (Mark r owner)
cell_of unit s Now = s.cells Now

-- What is seen of the run: how many persons it has, and the value of each cell.
abbrev pub seen_in : Unit → RunState → Seen
seen_in unit s = record { persons = length s.persons; value = cell_of unit s }

-- The state after the cell got the value.
abbrev pub with_cell : RunState → CellName → Option Datum → RunState
with_cell s name value = record s { cells = put_cell s.cells name value }

-- The state of a run with this many seats that is made at this moment.
abbrev pub made_at : ℕ → Unit → GlobalValues → ℤ → RunState
made_at seats unit store moment = record {
  seats = seats;
  persons = [];
  outbox = [];
  cells = λ cell. if is_kept_by_run unit cell then begins_as unit store None moment cell else None;
}

-- ---- persons

-- The owner is the person of this number.
abbrev pub is_owned_by : ℕ → Owner → Bool
is_owned_by p Run = false
is_owned_by p (Person q) = nat_eq q.0 p

-- The cell is one of the person of this number.
abbrev pub is_cell_of : ℕ → CellName → Bool
is_cell_of p (Prop _ owner) = is_owned_by p owner
is_cell_of p (Vis _ q) = nat_eq q.0 p
is_cell_of p (Member _ q) = nat_eq q.0 p
is_cell_of p (Chosen _ owner) = is_owned_by p owner
is_cell_of p (Opened _ owner) = is_owned_by p owner
is_cell_of p (Mark _ owner) = is_owned_by p owner
is_cell_of p (ActOpened _) = false
is_cell_of p Started = false
is_cell_of p Now = false
is_cell_of p Roster = false

-- The cell is one of which a value is kept for the person of this number.
abbrev pub is_kept_for : Unit → ℕ → CellName → Bool
is_kept_for unit p cell = is_cell_of p cell && is_kept_for_persons unit cell

-- The person of this name joins, last of all, with new cells.
abbrev pub joined : Unit → GlobalValues → RunState → ℤ → List ℕ → RunState
joined unit store s moment name = record {
  seats = s.seats;
  persons = s.persons ++ newcomer name ∷ [];
  outbox = s.outbox;
  cells =
      λ cell. if is_kept_for unit (length s.persons) cell
      then begins_as unit store (Some name) moment cell
      else s.cells cell;
}

-- The person holds the role, or no longer does.
abbrev pub holding : RunState → ℕ → ℕ → Bool → RunState
holding s p role held = record s { persons = changed_at (with_role role held) p s.persons }

-- The notice is sent.
abbrev pub with_notice : RunState → NoticeState → RunState
with_notice s notice = record s { outbox = s.outbox ++ notice ∷ [] }
