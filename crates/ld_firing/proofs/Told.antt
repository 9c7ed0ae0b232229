-- What writes tell: nothing where there is none, what each tells one after another, and the slot of the cell.
use Rattle.std.proofs.Common.{◌≡◌, refl, sym, subst, ◌∙◌, ℕ, ◌<◌, ◌⊎◌, inl, inr, List, [], ◌∷◌, ◌++◌, length, slice_get, Option, Some, None, false, Contains, filter_map, Result, Ok, Err, OnOk}
use Rattle.std.specs.Option.{option_map, option_eq}
use Rattle.ld_base.specs.Maybe.{◌>>=◌}
use Rattle.ld_value.specs.Datum.{Datum, same_datum}
use Rattle.ld_model.specs.Cells.{same_cell}
use Rattle.ld_model.specs.declared.cell.CellName.{CellName}
use Rattle.ld_model.specs.declared.cell.Owner.{Owner}
use Rattle.ld_model.specs.declared.unit.Unit.{Unit}
use Rattle.ld_expr.specs.Seen.{mark_cell}
use Rattle.ld_roles.specs.Roster.{Persons}
use Rattle.ld_state.specs.Layout.{slot_in}
use Rattle.ld_state.specs.RunCells.{all_cells, cell_if, slot_of}
use Rattle.ld_state.specs.RunState.{RunState, cell_of, with_cell}
use Rattle.ld_state.specs.StateView.{StateView, IsStateOf, run_of}
use Rattle.ld_state.proofs.Cells.{slot_stands}
use Rattle.ld_state.proofs.Elements.{IsIn, contains_from_in, in_either, in_from_contains, in_left, in_right}
use Rattle.ld_firing.specs.Actions.{differs}
use Rattle.ld_firing.specs.RunSystem.{content_of, slots_named}
use Rattle.ld_firing.specs.Telling.{Tells}
use Rattle.ld_firing.proofs.Firings.{other_cell, write_told}
use Rattle.ld_firing.proofs.Found.{in_filter_map}
use Rattle.ld_firing.proofs.Laws.{same_cell_of, slots_below}
use Rattle.ld_firing.proofs.Progressing.{told_where}
use Rattle.ld_state.proofs.SeenSame.{persons_counted}

-- ---- one after another

pub tells_nothing : (unit : Unit) (s : RunState) (told : List ℕ) → Tells unit s s told told
tells_nothing unit s told = record {
  persons = refl;
  seats = refl;
  kept = λ k there. there;
  slots = λ k there. inl there;
  untold = λ k untold. refl;
  marks = λ rule owner. refl;
}

pub tells_then : {unit : Unit} {s t u : RunState} {before told more : List ℕ} → Tells unit s t before told
    → Tells unit t u told more → Tells unit s u before more
tells_then {unit} {s} {t} {u} {before} {told} {more} first second = record {
  persons = second.persons ∙ first.persons;
  seats = second.seats ∙ first.seats;
  kept = λ k there. second.kept k (first.kept k there);
  slots = λ k there. either k (second.slots k there);
  untold = λ k untold. first.untold k (λ there. untold (second.kept k there)) ∙ second.untold k untold;
  marks = λ rule owner. second.marks rule owner ∙ first.marks rule owner;
}
  where
    either : (k : ℕ) → Contains told k ⊎ (k < length (all_cells unit (length t.persons)))
        → Contains before k ⊎ (k < length (all_cells unit (length s.persons)))
    either k (inl early) = first.slots k early
    either k (inr below) =
        inr (subst (λ (ps : Persons). k < length (all_cells unit (length ps))) first.persons below)

-- ---- one cell

-- The cell holds no verdict.
abbrev pub IsNoMark : CellName → Type 0
IsNoMark cell = (rule : ℕ) (owner : Owner) → same_cell (mark_cell rule owner) cell ≡ false

module _ (unit : Unit) (s : RunState) (cell : CellName) (value : Option Datum) (before : List ℕ) where
  abbrev written : RunState
  written = with_cell s cell value

  -- The cell, where it gets another value, and all that is told then.
  abbrev now : List CellName
  now = cell_if (differs (s.cells cell) value) cell

  abbrev all : List ℕ
  all = before ++ slots_named unit s now

  told_slot : (k : ℕ) → IsIn before k ⊎ IsIn (slots_named unit s now) k
      → Contains before k ⊎ (k < length (all_cells unit (length s.persons)))
  told_slot k (inl early) = inl (contains_from_in before k early)
  told_slot k (inr late) = inr (slots_below unit s now k (contains_from_in (slots_named unit s now) k late))

  stays : (k : ℕ) (c : CellName) → slice_get (all_cells unit (length s.persons)) k ≡ Some c
      → (Contains all k → ⊥) → IsIn now c ⊎ (written.cells c ≡ s.cells c)
      → cell_of unit s c ≡ cell_of unit written c
  stays k c at untold (inl changed) =
      absurd (untold (contains_from_in all k (in_right before (slots_named unit s now) k
      (in_filter_map (slot_of unit (length s.persons)) now c k changed (slot_stands unit (length s.persons) k c at)))))
  stays k c at untold (inr same) = same_cell_of unit s written c refl (sym same)

  unchanged : (k : ℕ) → (Contains all k → ⊥) → content_of unit s k ≡ content_of unit written k
  unchanged k untold = by (slice_get (all_cells unit (length s.persons)) k) refl
    where
      by : (found : Option CellName) → slice_get (all_cells unit (length s.persons)) k ≡ found
          → (found >>= cell_of unit s) ≡ (found >>= cell_of unit written)
      by None at = refl
      by (Some c) at = stays k c at untold (write_told s cell value c)

  -- A cell that is no mark gets the value, and its slot is told where that changed its value.
  pub tells_write : IsNoMark cell → Tells unit s written before all
  tells_write other = record {
    persons = refl;
    seats = refl;
    kept = λ k there. contains_from_in all k (in_left before (slots_named unit s now) k (in_from_contains before k there));
    slots = λ k there. told_slot k (in_either before (slots_named unit s now) k (in_from_contains all k there));
    untold = unchanged;
    marks = λ rule owner. other_cell s.cells cell (mark_cell rule owner) value (other rule owner);
  }

-- What the clauses `run`, `same` and `changed` of a state's `set` come to.
pub told_by_set : (unit : Unit) (old new : StateView) (before told : List ℕ) (cell : CellName) (value : Option Datum)
    → IsNoMark cell → IsStateOf unit old → run_of new ≡ with_cell (run_of old) cell value
    → ((run_of old).cells cell ≡ value → told ≡ before)
    → (((run_of old).cells cell ≡ value → ⊥) → Some told ≡ option_map (λ slot. before ++ slot ∷ []) (slot_in old.layout (length old.rows) cell))
    → Tells unit (run_of old) (run_of new) before told
told_by_set unit old new before told cell value other own run same changed =
    subst (λ r. Tells unit (run_of old) r before told) (sym run)
    (subst (λ slots. Tells unit (run_of old) (with_cell (run_of old) cell value) before slots) (sym slots)
    (tells_write unit (run_of old) cell value before other))
  where
    slots : told ≡ before ++ slots_named unit (run_of old) (cell_if (differs ((run_of old).cells cell) value) cell)
    slots =
        subst (λ n. told ≡ before ++ filter_map (slot_of unit n) (cell_if (differs ((run_of old).cells cell) value) cell))
        (sym (persons_counted old))
        (told_where unit old new before told cell value (option_eq same_datum ((run_of old).cells cell) value) refl own same changed)

-- The same where a refusal is possible.
pub told_if_set : {A E : Type 0} → (result : Result A E) (unit : Unit) (old new : StateView) (before told : List ℕ) (cell : CellName) (value : Option Datum)
    → IsNoMark cell → IsStateOf unit old → OnOk result (run_of new ≡ with_cell (run_of old) cell value)
    → OnOk result ((run_of old).cells cell ≡ value → told ≡ before)
    → OnOk result (((run_of old).cells cell ≡ value → ⊥) → Some told ≡ option_map (λ slot. before ++ slot ∷ []) (slot_in old.layout (length old.rows) cell))
    → OnOk result (Tells unit (run_of old) (run_of new) before told)
told_if_set (Ok a) unit old new before told cell value other own run same changed =
    told_by_set unit old new before told cell value other own run same changed
told_if_set (Err e) unit old new before told cell value other own run same changed = tt
