-- A state of a unit has the cells of the unit's runs.
use Rattle.std.proofs.Common.{◌≡◌, ap, ◌∙◌, ℕ, List, [], ◌∷◌, length, true, is_some, inl, inr, refl}
use Rattle.std.proofs.lemmas.Bool.{and_from}
use Rattle.std.specs.List.{list_all}
use Rattle.ld_model.specs.declared.cell.CellName.{CellName}
use Rattle.ld_model.specs.declared.unit.Unit.{Unit}
use Rattle.ld_firing.specs.ActionCells.{HasSlots, has_slot}
use Rattle.ld_state.specs.Layout.{Layout, slot_in}
use Rattle.ld_state.specs.RunCells.{all_cells, slot_of}
use Rattle.ld_state.specs.StateView.{StateView, IsStateOf, has_cell}
use Rattle.ld_state.proofs.Cells.{slot_stands}
use Rattle.ld_state.proofs.Elements.{IsIn, stands_in}
use Rattle.ld_state.proofs.Laid.{slot_laid}
use Rattle.ld_firing.proofs.CellsThere.{AreCells}

module _ (unit : Unit) (s : StateView) (own : IsStateOf unit s) (name : CellName) where
  pub slot_same : slot_in s.layout (length s.rows) name ≡ slot_of unit (length s.rows) name
  slot_same =
      ap (λ (l : Layout). slot_in l (length s.rows) name) own.layout ∙ slot_laid unit (length s.rows) name

  pub cell_there : has_slot unit (length s.rows) name ≡ true → has_cell s name ≡ true
  cell_there there = ap is_some slot_same ∙ there

-- ---- cells of the unit's runs

pub slot_there : (unit : Unit) (persons : ℕ) (name : CellName) → IsIn (all_cells unit persons) name
    → has_slot unit persons name ≡ true
slot_there unit persons name inside =
    let stands = stands_in (all_cells unit persons) name inside in
    ap is_some (slot_stands unit persons stands.number name stands.at)

pub slots_there : (unit : Unit) (persons : ℕ) (names : List CellName) → AreCells unit persons names
    → HasSlots unit persons names
slots_there unit persons names are = record { each = by names are }
  where
    by : (some : List CellName) → AreCells unit persons some → list_all (has_slot unit persons) some ≡ true
    by [] are = refl
    by (name ∷ more) are =
        and_from (has_slot unit persons name) (list_all (has_slot unit persons) more)
        (slot_there unit persons name (are name (inl refl))) (by more (λ other later. are other (inr later)))
