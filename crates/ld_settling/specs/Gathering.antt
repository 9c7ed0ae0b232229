-- A list of slots, each once, to which the slots of more cells are added.
use Rattle.std.specs.Prelude.{◌≡◌, ℕ, ◌<◌, ◌≤◌, List, [], ◌∷◌, ◌++◌, fold, length, Bool, nat_eq, if◌then◌else◌}
use Rattle.std.specs.List.{list_any}
use Rattle.ld_graph.specs.Slots.{Slots}
use Rattle.ld_model.specs.declared.cell.CellName.{CellName}
use Rattle.ld_model.specs.declared.unit.Unit.{Unit}
use Rattle.ld_names.specs.declared.rule.Rule.{Rule}
use Rattle.ld_names.specs.Rules.{Site}
use Rattle.ld_expr.specs.Seen.{Seen}
use Rattle.ld_rules.specs.SiteLooks.{looks_by}
use Rattle.ld_rules.specs.SiteTests.{is_latched, site_mark}
use Rattle.ld_firing.specs.RunSystem.{slots_named}
use Rattle.ld_state.specs.RunState.{RunState}

-- The slot at the end, unless it is in the list.
abbrev pub with_slot : List ℕ → ℕ → List ℕ
with_slot slots slot = if list_any (nat_eq slot) slots then slots else slots ++ slot ∷ []

-- The list with the slots of these cells, of those that the run has.
abbrev pub with_cells : Unit → RunState → List ℕ → List CellName → List ℕ
with_cells unit s slots cells = fold with_slot slots (slots_named unit s cells)

-- The slots of the cells were added, and the room did not fall.
pub record Gathers (unit : Unit) (s : RunState) (cells : List CellName) (old new : Slots) : Type 0 where
  pub items : new.items ≡ with_cells unit s old.items cells
  pub room : old.room ≤ new.room

-- The list has no room for the slots of the cells.
abbrev pub FallsShort : Unit → RunState → List CellName → Slots → Type 0
FallsShort unit s cells old = old.room < length (with_cells unit s old.items cells)

-- What the test of a site looks at whose rule this is: the mark alone, where the rule has said yes for good.
abbrev pub looks_until_latched : Unit → Seen → Site → Rule → List CellName
looks_until_latched unit seen site rule =
    if is_latched seen site rule then site_mark site ∷ [] else looks_by unit seen site rule

-- The cells, if so.
abbrev pub cells_if : Bool → List CellName → List CellName
cells_if so cells = if so then cells else []
