-- No firing and no settling writes when the run was started or when an activity was first opened, nor any other
-- cell that is neither a mark nor one that actions write.
use Rattle.std.proofs.Common.{◌≡◌, refl, sym, ap, ◌∙◌, ℕ, Option, Some, Bool, true, false}
use Rattle.ld_value.specs.Datum.{Datum, truth_datum}
use Rattle.ld_model.specs.Cells.{same_cell}
use Rattle.ld_model.specs.declared.cell.CellName.{CellName}
use Rattle.ld_model.specs.declared.cell.CellName.TheVariants.{Started}
use Rattle.ld_model.specs.declared.cell.Owner.{Owner}
use Rattle.ld_model.specs.declared.unit.Unit.{Unit}
use Rattle.ld_names.specs.Rules.{Site}
use Rattle.ld_expr.specs.Seen.{opened_cell}
use Rattle.ld_firing.specs.Actions.{site_firing}
use Rattle.ld_rules.specs.LawWords.{is_mark}
use Rattle.ld_firing.specs.RunSettling.{Settlement, run_settling}
use Rattle.ld_state.specs.RunState.{RunState, seen_in}
use Rattle.ld_rules.specs.SiteTests.{site_test, site_mark}
use Rattle.ld_firing.proofs.Effects.{is_written, StaysTrue, through_any_firing}
use Rattle.ld_state.proofs.Elements.{different}
use Rattle.ld_firing.proofs.Firings.{other_cell}
use Rattle.ld_firing.proofs.LawsKept.{settling_keeps}
use Rattle.ld_state.proofs.SameCells.{one_cell}

-- Cells of which one is so and the other is not are two.
pub told_apart : (test : CellName → Bool) (a b : CellName) → test a ≡ false → test b ≡ true → same_cell a b ≡ false
told_apart test a b not_so so = by (same_cell a b) refl
  where
    by : (same : Bool) → same_cell a b ≡ same → same ≡ false
    by false other = refl
    by true same = different (sym so ∙ sym (ap test (one_cell a b same)) ∙ not_so)

keeps_cell : (unit : Unit) (cell : CellName) (value : Option Datum) → is_written cell ≡ false
    → StaysTrue unit (λ doing. doing.state.cells cell ≡ value)
keeps_cell unit cell value never = record {
  writes = λ doing name new fair holds.
      other_cell doing.state.cells name cell new (told_apart is_written cell name never fair.written) ∙ holds;
  rejects = λ doing holds. holds;
  sends = λ doing notice holds. holds;
}

-- A firing, of whatever site, leaves such a cell.
pub firing_leaves : (unit : Unit) (s : RunState) (site : Site) (cell : CellName) → is_written cell ≡ false → is_mark cell ≡ false
    → (site_firing unit s site).state.cells cell ≡ s.cells cell
firing_leaves unit s site cell never no_mark =
    through_any_firing unit (λ doing. doing.state.cells cell ≡ s.cells cell) (keeps_cell unit cell (s.cells cell) never) s site refl
    (other_cell s.cells (site_mark site) cell (Some (truth_datum (site_test unit (seen_in unit s) site))) (told_apart is_mark cell (site_mark site) no_mark refl))

-- A settling leaves it.
pub settling_leaves : (unit : Unit) (s : RunState) (x : Settlement) (cell : CellName) → is_written cell ≡ false → is_mark cell ≡ false
    → run_settling unit s ≡ Some x → x.state.cells cell ≡ s.cells cell
settling_leaves unit s x cell never no_mark is =
    settling_keeps unit (λ t. t.cells cell ≡ s.cells cell) (λ t site fired holds. firing_leaves unit t site cell never no_mark ∙ holds) s x is refl

-- When the run was started, and when an activity was first opened.
pub settling_leaves_start : (unit : Unit) (s : RunState) (x : Settlement) → run_settling unit s ≡ Some x → x.state.cells Started ≡ s.cells Started
settling_leaves_start unit s x is = settling_leaves unit s x Started refl refl is

pub settling_leaves_opening : (unit : Unit) (s : RunState) (x : Settlement) (thing : ℕ) (owner : Owner) → run_settling unit s ≡ Some x
    → x.state.cells (opened_cell thing owner) ≡ s.cells (opened_cell thing owner)
settling_leaves_opening unit s x thing owner is = settling_leaves unit s x (opened_cell thing owner) refl refl is
