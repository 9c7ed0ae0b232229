-- Which rules feed which others: the one writes what the other looks at.
use Rattle.std.specs.Prelude.{◌≡◌, ℕ, List, ◌++◌, length, Bool, true, false, ◌&&◌, not, nat_eq, Contains}
use Rattle.ld_model.specs.declared.cell.CellName.{CellName}
use Rattle.ld_model.specs.declared.cell.Owner.{Owner}
use Rattle.ld_model.specs.declared.unit.Unit.{Unit}
use Rattle.ld_names.specs.declared.rule.Rule.{Rule}
use Rattle.ld_names.specs.Rules.{Site, sites_of}
use Rattle.ld_expr.specs.Lookup.{list_from}
use Rattle.ld_firing.specs.ActionCells.{actions_cells, opened_act_cells}
use Rattle.ld_firing.specs.Actions.{actions_of}
use Rattle.ld_rules.specs.LawWords.{is_for_good}
use Rattle.ld_rules.specs.SiteLooks.{site_looks}
use Rattle.ld_rules.specs.SiteTests.{site_mark, rule_of}
use Rattle.ld_state.specs.RunCells.{cell_if}
use Rattle.ld_state.specs.RunState.{RunState, seen_in}

-- ---- what a rule writes

-- What the actions of a rule are on, once its mark became this.
abbrev pub branch_writes : Unit → ℕ → Owner → Rule → Bool → List CellName
branch_writes unit persons owner rule verdict =
    actions_cells unit persons owner (actions_of unit rule verdict)

-- What the actions of a rule are on, whatever its mark becomes. That of an act's opening is on the opening.
abbrev pub rule_writes : Unit → ℕ → Owner → Rule → List CellName
rule_writes unit persons owner rule =
    opened_act_cells unit rule
    ++ (branch_writes unit persons owner rule true ++ branch_writes unit persons owner rule false)

-- ---- feeding

-- The mark of the first rule counts as fed to the second: a rule that says yes for good does not feed
-- itself by its own mark.
abbrev pub mark_counts : Unit → ℕ → ℕ → Bool
mark_counts unit a b = not (nat_eq a b && is_for_good unit a)

-- What a site writes that counts where sites of the rule of this number look.
abbrev pub feeding_cells : Unit → ℕ → Site → ℕ → List CellName
feeding_cells unit persons site to =
    cell_if (mark_counts unit site.rule to) (site_mark site)
    ++ list_from (rule_writes unit persons site.owner) (rule_of unit site)

-- The first rule feeds the second: in some state of a run, with some persons, a site of the first writes
-- a cell at which a site of the second looks.
pub record Feeds (unit : Unit) (a b : ℕ) : Type 0 where
  pub state : RunState
  pub writer : Site
  pub reader : Site
  pub writer_there : Contains (sites_of unit (length state.persons)) writer
  pub reader_there : Contains (sites_of unit (length state.persons)) reader
  pub first : writer.rule ≡ a
  pub second : reader.rule ≡ b
  pub cell : CellName
  pub writes : Contains (feeding_cells unit (length state.persons) writer b) cell
  pub looks : Contains (site_looks unit (seen_in unit state) reader) cell
