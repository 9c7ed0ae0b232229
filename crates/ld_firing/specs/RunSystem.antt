-- The sites of a unit's runs as a system: what the settling of a run goes by.
use Rattle.std.specs.Prelude.{ℕ, ◌<◌, ◌≤◌, ◌≡◌, List, length, map, filter_map, Option, Some, None, Bool, true, false, is_some, slice_get}
use Rattle.std.specs.Option.{option_map_or}
use Rattle.ld_base.specs.Maybe.{◌>>=◌}
use Rattle.ld_cascade.specs.System.{System}
use Rattle.ld_value.specs.Datum.{Datum, truth_datum}
use Rattle.ld_model.specs.declared.cell.CellName.{CellName}
use Rattle.ld_model.specs.declared.unit.Unit.{Unit}
use Rattle.ld_names.specs.Identifiers.{all_differ}
use Rattle.ld_names.specs.Rules.{Site}
use Rattle.ld_names.specs.SiteNumbers.{numbered_site, site_count}
use Rattle.ld_refs.specs.Checks.{IsValid}
use Rattle.ld_expr.specs.Lookup.{list_from}
use Rattle.ld_roles.specs.Roster.{Persons}
use Rattle.ld_firing.specs.Actions.{Doing, nothing_done, site_firing}
use Rattle.ld_firing.specs.Costs.{site_cost}
use Rattle.ld_state.specs.RunCells.{IsRunOf, all_cells, slot_of}
use Rattle.ld_state.specs.RunState.{RunState, seen_in, cell_of}
use Rattle.ld_rules.specs.SiteLooks.{site_looks, open_looks}
use Rattle.ld_rules.specs.SiteTests.{site_test, site_mark}

-- ---- sites by their numbers

-- The site of this number.
abbrev pub site_at : Unit → RunState → ℕ → Option Site
site_at unit s number = numbered_site unit s.seats (length s.persons) number

-- What is said of the site of this number, or of a number that is none.
abbrev pub of_site : {A : Type 0} → Unit → RunState → ℕ → (Site → A) → A → A
of_site unit s number said other = option_map_or said (site_at unit s number) other

-- ---- slots

-- The slots of those of these cells that the run has, in order and with repeats.
abbrev pub slots_named : Unit → RunState → List CellName → List ℕ
slots_named unit s cells = filter_map (slot_of unit (length s.persons)) cells

-- The value of the cell that has this slot, if there is one.
abbrev pub content_of : Unit → RunState → ℕ → Option Datum
content_of unit s slot = slice_get (all_cells unit (length s.persons)) slot >>= cell_of unit s

-- ---- the system

-- What firings leave as it is.
pub record Enrolment : Type 0 where
  pub seats : ℕ
  pub persons : Persons

-- The seats stay, and there are no fewer persons.
pub record IsGrown (before now : Enrolment) : Type 0 where
  pub seats : before.seats ≡ now.seats
  pub persons : length before.persons ≤ length now.persons

-- No two persons have one name.
abbrev pub HaveNamesOfTheirOwn : Persons → Type 0
HaveNamesOfTheirOwn persons = all_differ (map (λ person. person.name) persons) ≡ true

-- What is true of each state of a run: its unit is valid, no two persons have one name, there is a seat, and
-- one for each person, and each cell has a value that it may have.
pub record IsSoundRun (unit : Unit) (s : RunState) : Type 0 where
  pub valid : IsValid unit
  pub names : HaveNamesOfTheirOwn s.persons
  pub seat : 0 < s.seats
  pub seated : length s.persons ≤ s.seats
  pub seen : IsRunOf unit (seen_in unit s)

-- The verdict that a mark holds.
abbrev pub verdict_in : Option Datum → Option Bool
verdict_in (Some (truth_datum b)) = Some b
verdict_in _ = None

-- What the firing of the site of this number does.
abbrev pub firing_at : Unit → RunState → ℕ → Doing
firing_at unit s i = of_site unit s i (site_firing unit s) (nothing_done s)

-- The system of the runs of a unit: a situation is the state of a run, and a site is its number.
abbrev pub run_system : Unit → System
run_system unit = record {
  Situation = RunState;
  Content = Option Datum;
  Setting = Enrolment;
  IsSound = IsSoundRun unit;
  setting = λ s. record { seats = s.seats; persons = s.persons };
  GrowsTo = IsGrown;
  is_site = λ s i. is_some (site_at unit s i);
  count = λ s. site_count unit s.seats;
  slots = λ s. length (all_cells unit (length s.persons));
  content = content_of unit;
  test = λ s i. of_site unit s i (site_test unit (seen_in unit s)) false;
  mark = λ s i. of_site unit s i (λ site. verdict_in (s.cells (site_mark site))) (Some false);
  reads = λ s i. slots_named unit s (list_from (site_looks unit (seen_in unit s)) (site_at unit s i));
  size = λ s i. of_site unit s i (λ site. length (open_looks unit (seen_in unit s) site)) 0;
  after = λ s i. (firing_at unit s i).state;
  changed = λ s i. slots_named unit s (firing_at unit s i).changes;
  rejected = λ s i. (firing_at unit s i).rejected;
  sent = λ s i. (firing_at unit s i).sent;
  cost = λ s i. of_site unit s i (site_cost unit s) 0;
}
