-- That a run which takes values tells no more than the slots of cells that got another value.
use Rattle.std.proofs.Common.{◌≡◌, refl, sym, ap, subst, ◌∙◌, ℕ, ◌⊎◌, inl, inr, List, [], ◌∷◌, ◌++◌, length, slice_get, Option, Some, None, Bool, true, false, cond, Contains, Result, Ok, Err, OnOk}
use Rattle.std.proofs.lemmas.Bool.{true≢false}
use Rattle.std.specs.Option.{option_eq, option_map}
use Rattle.ld_base.specs.Maybe.{◌>>=◌}
use Rattle.ld_value.specs.Datum.{Datum, same_datum}
use Rattle.ld_model.specs.declared.cell.CellName.{CellName}
use Rattle.ld_model.specs.declared.cell.CellName.TheVariants.{Prop, Vis, Member, Chosen, Opened, ActOpened, Started, Mark, Now, Roster}
use Rattle.ld_model.specs.declared.unit.Unit.{Unit}
use Rattle.ld_firing.specs.RunSystem.{content_of}
use Rattle.ld_roles.specs.Roster.{Persons}
use Rattle.ld_state.specs.GlobalValues.{GlobalValues}
use Rattle.ld_state.specs.Layout.{slot_in}
use Rattle.ld_state.specs.RunCells.{all_cells}
use Rattle.ld_state.specs.RunState.{RunState, cell_of, with_cell}
use Rattle.ld_state.specs.StateView.{IsStateOf, StateView, run_of}
use Rattle.ld_state.proofs.Elements.{IsIn, contains_from_in, in_either, in_from_contains, none_is_some, some_same}
use Rattle.ld_state.proofs.SameCells.{one_value, same_cell_itself}
use Rattle.ld_state.proofs.Standing.{stands_at}
use Rattle.ld_sharing.specs.Globals.{store_says}
use Rattle.ld_sharing.specs.Taken.{HasTaken}
use Rattle.ld_sharing.specs.Told.{IsTaken, TellsOnly, TellsTaken}
use Rattle.ld_sharing.proofs.Currents.{value_itself}
use Rattle.ld_sharing.proofs.PushedCells.{slot_here}
use Rattle.ld_sharing.proofs.TakingCells.{still_value}

-- ---- one cell

module _ (unit : Unit) (store : GlobalValues) (old new : StateView) (before told : List ℕ) (cell : CellName) (value : Option Datum)
    (own : IsStateOf unit old) (said : store_says unit store (run_of old).persons cell ≡ Some value)
    (run : run_of new ≡ with_cell (run_of old) cell value) where
  taken_slot : (slot : ℕ) → slot_in old.layout (length old.rows) cell ≡ Some slot → ((run_of old).cells cell ≡ value → ⊥)
      → IsTaken unit store (run_of old).persons (run_of old) (run_of new) slot
  taken_slot slot found other = record {
    cell = cell;
    at = sym (slot_here unit old own slot) ∙ stands_at old.layout (length old.rows) slot cell found;
    value = value;
    said = said;
    new = ap (λ (r : RunState). r.cells cell) run ∙ ap (λ b. cond b value ((run_of old).cells cell)) (same_cell_itself cell);
    old = other;
  }

  either_told : (slot : ℕ) → slot_in old.layout (length old.rows) cell ≡ Some slot → ((run_of old).cells cell ≡ value → ⊥)
      → told ≡ before ++ slot ∷ [] → TellsTaken unit store (run_of old).persons (run_of old) (run_of new) before told
  either_told slot found other is k there =
      by (in_either before (slot ∷ []) k (in_from_contains (before ++ slot ∷ []) k (subst (λ list. Contains list k) is there)))
    where
      by : IsIn before k ⊎ IsIn (slot ∷ []) k → Contains before k ⊎ IsTaken unit store (run_of old).persons (run_of old) (run_of new) k
      by (inl early) = inl (contains_from_in before k early)
      by (inr (inl same)) =
          inr (subst (IsTaken unit store (run_of old).persons (run_of old) (run_of new)) same (taken_slot slot found other))
      by (inr (inr none)) = absurd none

  pub taken_if_other : ((run_of old).cells cell ≡ value → told ≡ before)
      → (((run_of old).cells cell ≡ value → ⊥) → Some told ≡ option_map (λ slot. before ++ slot ∷ []) (slot_in old.layout (length old.rows) cell))
      → TellsTaken unit store (run_of old).persons (run_of old) (run_of new) before told
  taken_if_other same changed = by (option_eq same_datum ((run_of old).cells cell) value) refl
    where
      at_slot : (found : Option ℕ) → slot_in old.layout (length old.rows) cell ≡ found → ((run_of old).cells cell ≡ value → ⊥)
          → Some told ≡ option_map (λ slot. before ++ slot ∷ []) found
          → TellsTaken unit store (run_of old).persons (run_of old) (run_of new) before told
      at_slot None found other none = none_is_some (sym none)
      at_slot (Some slot) found other some = either_told slot found other (some_same some)

      by : (b : Bool) → option_eq same_datum ((run_of old).cells cell) value ≡ b
          → TellsTaken unit store (run_of old).persons (run_of old) (run_of new) before told
      by true is = λ k there. inl (subst (λ list. Contains list k) (same (one_value ((run_of old).cells cell) value is)) there)
      by false is =
          let other : (run_of old).cells cell ≡ value → ⊥ = λ equal. true≢false (sym (value_itself value) ∙ ap (λ v. option_eq same_datum v value) (sym equal) ∙ is) in
          at_slot (slot_in old.layout (length old.rows) cell) refl other (changed other)

pub taken_if_set : {A E : Type 0} → (result : Result A E) (unit : Unit) (store : GlobalValues) (old new : StateView) (before told : List ℕ) (cell : CellName) (value : Option Datum)
    → IsStateOf unit old → store_says unit store (run_of old).persons cell ≡ Some value
    → OnOk result (run_of new ≡ with_cell (run_of old) cell value)
    → OnOk result ((run_of old).cells cell ≡ value → told ≡ before)
    → OnOk result (((run_of old).cells cell ≡ value → ⊥) → Some told ≡ option_map (λ slot. before ++ slot ∷ []) (slot_in old.layout (length old.rows) cell))
    → OnOk result (TellsTaken unit store (run_of old).persons (run_of old) (run_of new) before told)
taken_if_set (Ok a) unit store old new before told cell value own said run same changed =
    taken_if_other unit store old new before told cell value own said run same changed
taken_if_set (Err e) unit store old new before told cell value own said run same changed = tt

-- ---- one after another

-- Each cell that had the store's value has it.
abbrev pub StillHas : Unit → GlobalValues → Persons → RunState → RunState → Type 0
StillHas unit store persons s t =
    (cell : CellName) (value : Option Datum) → store_says unit store persons cell ≡ Some value
    → s.cells cell ≡ value → t.cells cell ≡ value

module _ (unit : Unit) (store : GlobalValues) (test : CellName → Bool) (persons : Persons) (s t u : RunState)
    (same : t.persons ≡ persons) (taken : HasTaken unit store test t u) where
  pub still_then : StillHas unit store persons s t → StillHas unit store persons s u
  still_then before cell value said has =
      still_value unit store test t u taken cell value (ap (λ ps. store_says unit store ps cell) same ∙ said) (before cell value said has)

  pub taken_then : (before told more : List ℕ) → StillHas unit store persons s t → TellsTaken unit store persons s t before told
      → TellsTaken unit store t.persons t u told more → TellsTaken unit store persons s u before more
  taken_then before told more still first second k there = by (second k there)
    where
      early : Contains before k ⊎ IsTaken unit store persons s t k → Contains before k ⊎ IsTaken unit store persons s u k
      early (inl was) = inl was
      early (inr it) =
          inr (record {
            cell = it.cell;
            at = it.at;
            value = it.value;
            said = it.said;
            new = still_value unit store test t u taken it.cell it.value (ap (λ ps. store_says unit store ps it.cell) same ∙ it.said) it.new;
            old = it.old;
          })

      by : Contains told k ⊎ IsTaken unit store t.persons t u k → Contains before k ⊎ IsTaken unit store persons s u k
      by (inl was) = early (first k was)
      by (inr it) =
          let said = sym (ap (λ ps. store_says unit store ps it.cell) same) ∙ it.said in
          inr (record {
            cell = it.cell;
            at = sym (ap (λ (ps : Persons). slice_get (all_cells unit (length ps)) k) same) ∙ it.at;
            value = it.value;
            said = said;
            new = it.new;
            old = λ has. it.old (still it.cell it.value said has);
          })

-- ---- what is told of a run

-- The store says something of cells alone whose values stand in the run.
said_cell : (unit : Unit) (store : GlobalValues) (persons : Persons) (s : RunState) (cell : CellName) (value : Option Datum)
    → store_says unit store persons cell ≡ Some value → cell_of unit s cell ≡ s.cells cell
unfolding cell_of
said_cell unit store persons s (Prop p owner) value said = refl
said_cell unit store persons s (Vis t p) value said = none_is_some said
said_cell unit store persons s (Member r p) value said = none_is_some said
said_cell unit store persons s (Chosen t owner) value said = none_is_some said
said_cell unit store persons s (Opened t owner) value said = none_is_some said
said_cell unit store persons s (ActOpened t) value said = none_is_some said
said_cell unit store persons s Started value said = none_is_some said
said_cell unit store persons s (Mark r owner) value said = none_is_some said
said_cell unit store persons s Now value said = none_is_some said
said_cell unit store persons s Roster value said = none_is_some said

module _ (unit : Unit) (store : GlobalValues) (persons : Persons) (s t : RunState) (olds : s.persons ≡ persons) (news : t.persons ≡ persons) where
  content_is : (r : RunState) (k : ℕ) (cell : CellName) (value : Option Datum) → r.persons ≡ persons
      → slice_get (all_cells unit (length persons)) k ≡ Some cell → store_says unit store persons cell ≡ Some value
      → content_of unit r k ≡ r.cells cell
  content_is r k cell value same at said =
      ap (λ (found : Option CellName). found >>= cell_of unit r)
      (ap (λ (ps : Persons). slice_get (all_cells unit (length ps)) k) same ∙ at)
      ∙ said_cell unit store persons r cell value said

  pub tells_only : (before told : List ℕ) → TellsTaken unit store persons s t before told → TellsOnly unit s t before told
  tells_only before told taken k there = by (taken k there)
    where
      by : Contains before k ⊎ IsTaken unit store persons s t k
          → Contains before k ⊎ (content_of unit s k ≡ content_of unit t k → ⊥)
      by (inl was) = inl was
      by (inr it) =
          inr (λ equal. it.old (sym (content_is s k it.cell it.value olds it.at it.said) ∙ equal
          ∙ content_is t k it.cell it.value news it.at it.said ∙ it.new))
