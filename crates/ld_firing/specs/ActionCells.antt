-- The cells that a firing writes.
use Rattle.std.specs.Prelude.{◌≡◌, ℕ, List, [], ◌∷◌, ◌++◌, flat_map, Bool, true, is_some}
use Rattle.std.specs.List.{list_all}
use Rattle.ld_model.specs.declared.cell.CellName.{CellName}
use Rattle.ld_model.specs.declared.cell.Owner.{Owner}
use Rattle.ld_model.specs.declared.cell.Owner.TheVariants.{Run, Person}
use Rattle.ld_model.specs.declared.completion.Change.{Change as ChangeOf}
use Rattle.ld_model.specs.declared.condition.Action.{Action}
use Rattle.ld_model.specs.declared.condition.Action.TheVariants.{Show, Hide, Change, Notify}
use Rattle.ld_model.specs.declared.unit.Unit.{Unit}
use Rattle.ld_names.specs.declared.rule.Rule.{Rule}
use Rattle.ld_names.specs.Names.{thing_number}
use Rattle.ld_expr.specs.Lookup.{list_from}
use Rattle.ld_expr.specs.Seen.{visibility_cell, act_opened_cell, mark_cell}
use Rattle.ld_expr.specs.Terms.{cell_of_property}
use Rattle.ld_firing.specs.Actions.{actions_of, holder_named, opened_by, owners_of_change}
use Rattle.ld_state.specs.RunCells.{slot_of}
use Rattle.ld_rules.specs.SiteLooks.{cell_list}

-- A run with this many persons has the cell.
abbrev pub has_slot : Unit → ℕ → CellName → Bool
has_slot unit persons cell = is_some (slot_of unit persons cell)

-- It has each of the cells.
pub record HasSlots (unit : Unit) (persons : ℕ) (cells : List CellName) : Type 0 where
  pub each : list_all (has_slot unit persons) cells ≡ true

-- What the owner sees of the thing: a person.
abbrev pub visible_cells : Unit → Owner → List ℕ → List CellName
visible_cells unit Run id = []
visible_cells unit (Person p) id = list_from (λ thing. visibility_cell thing p.0 ∷ []) (thing_number unit id)

-- The value of the property that is meant where the owner speaks.
abbrev pub change_cells : Unit → ChangeOf → Owner → List CellName
change_cells unit change owner = cell_list (cell_of_property unit owner change.property)

-- The same for all for whom the change is made.
abbrev pub all_change_cells : Unit → ℕ → Owner → ChangeOf → List CellName
all_change_cells unit persons owner change =
    flat_map (change_cells unit change) (owners_of_change (holder_named unit change.property) persons owner)

-- The cells of one action at a site of the owner; a notice writes none.
abbrev pub action_cells : Unit → ℕ → Owner → Action → List CellName
action_cells unit persons owner (Show things) = flat_map (visible_cells unit owner) things
action_cells unit persons owner (Hide things) = flat_map (visible_cells unit owner) things
action_cells unit persons owner (Change change) = all_change_cells unit persons owner change
action_cells unit persons owner (Notify notice) = []

-- Those of several actions, one after another.
abbrev pub actions_cells : Unit → ℕ → Owner → List Action → List CellName
actions_cells unit persons owner actions = flat_map (action_cells unit persons owner) actions

-- The opening of an act that the rule opens.
abbrev pub opened_act_cells : Unit → Rule → List CellName
opened_act_cells unit rule = list_from (λ thing. act_opened_cell thing ∷ []) (opened_by unit rule)

-- The cells of the firing of the rule of this number: its mark, what it opens, and those of its actions.
abbrev pub firing_cells : Unit → ℕ → Owner → ℕ → Rule → Bool → List CellName
firing_cells unit persons owner number rule verdict =
    mark_cell number owner
    ∷ (opened_act_cells unit rule ++ actions_cells unit persons owner (actions_of unit rule verdict))
