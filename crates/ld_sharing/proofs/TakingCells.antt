-- What becomes of a run that takes some cells' values from the store.
use Rattle.std.proofs.Common.{◌≡◌, refl, sym, ap, subst, ◌∙◌, Option, None, Some, Bool, true, false, cond, unwrap_or, IsSome, if◌then◌else◌}
use mathlib.Core.Path.{fun_ext}
use Rattle.ld_value.specs.Datum.{Datum}
use Rattle.ld_model.specs.Cells.{CellMap, same_cell}
use Rattle.ld_model.specs.declared.cell.CellName.{CellName}
use Rattle.ld_model.specs.declared.unit.Unit.{Unit}
use Rattle.ld_state.specs.GlobalValues.{GlobalValues}
use Rattle.ld_state.specs.RunState.{RunState, with_cell}
use Rattle.ld_state.proofs.Elements.{some_same}
use Rattle.ld_state.proofs.SameCells.{one_cell}
use Rattle.ld_sharing.specs.Fitting.{HasFittingGlobals, TakesFitting, fits_cell}
use Rattle.ld_sharing.specs.Globals.{store_says, taking_in}
use Rattle.ld_sharing.specs.Taken.{HasTaken, taking_where}

-- ---- one cell's value

-- The cell's value, where what the store says is taken or not.
abbrev picked : Bool → Option (Option Datum) → Option Datum → Option Datum
picked taken said value = if taken then unwrap_or said value else value

not_said : (taken : Bool) (value : Option Datum) → picked taken None value ≡ value
not_said true value = refl
not_said false value = refl

picked_alike : (a b : Bool) (said : Option (Option Datum)) (value : Option Datum) → (IsSome said → b ≡ a)
    → picked a said value ≡ picked b said value
picked_alike a b None value same = not_said a value ∙ sym (not_said b value)
picked_alike a b (Some x) value same = ap (λ taken. picked taken (Some x) value) (sym (same refl))

picked_again : (taken : Bool) (said : Option (Option Datum)) (value : Option Datum)
    → unwrap_or said (picked taken said value) ≡ unwrap_or said value
picked_again true None value = refl
picked_again false None value = refl
picked_again true (Some x) value = refl
picked_again false (Some x) value = refl

-- ---- runs

same_run : (s : RunState) (cells others : CellMap) → ((c : CellName) → cells c ≡ others c)
    → record s { cells = cells } ≡ record s { cells = others }
same_run s cells others each = ap (λ (map : CellMap). record s { cells = map }) (fun_ext each)

module _ (unit : Unit) (store : GlobalValues) (test : CellName → Bool) where
  -- A run that takes nothing.
  pub taken_none : (s : RunState) → ((c : CellName) (value : Option Datum) → test c ≡ true → store_says unit store s.persons c ≡ Some value → ⊥)
      → HasTaken unit store test s s
  taken_none s none = record {
    run = same_run s s.cells (taking_where test unit store s).cells (λ c. each c (test c) refl (store_says unit store s.persons c) refl);
    fitting = λ c value takes said. absurd (none c value takes said);
  }
    where
      each : (c : CellName) (b : Bool) → test c ≡ b → (said : Option (Option Datum)) → store_says unit store s.persons c ≡ said
          → s.cells c ≡ picked b said (s.cells c)
      each c b is None at = sym (not_said b (s.cells c))
      each c false is (Some value) at = refl
      each c true is (Some value) at = absurd (none c value is at)

  -- The same, by a test that says the same of each cell of which the store says something.
  pub taken_alike : (other : CellName → Bool) (s t : RunState) → HasTaken unit store other s t
      → ((c : CellName) → IsSome (store_says unit store s.persons c) → test c ≡ other c)
      → HasTaken unit store test s t
  taken_alike other s t taken same = record {
    run = taken.run ∙ same_run s (taking_where other unit store s).cells (taking_where test unit store s).cells
        (λ c. picked_alike (other c) (test c) (store_says unit store s.persons c) (s.cells c) (same c));
    fitting = λ c value takes said.
        taken.fitting c value (sym (same c (subst IsSome (sym said) refl)) ∙ takes) said;
  }

  module _ (s t : RunState) (taken : HasTaken unit store test s t) where
    cell_after : (cell : CellName) → t.cells cell ≡ picked (test cell) (store_says unit store s.persons cell) (s.cells cell)
    cell_after cell = ap (λ (run : RunState). run.cells cell) taken.run

    pub same_persons : t.persons ≡ s.persons
    same_persons = ap (λ (run : RunState). run.persons) taken.run

    -- A cell that passes the test has the store's value.
    pub taken_value : (cell : CellName) (value : Option Datum) → store_says unit store s.persons cell ≡ Some value
        → test cell ≡ true → t.cells cell ≡ value
    taken_value cell value said takes =
        cell_after cell
        ∙ ap (λ b. picked b (store_says unit store s.persons cell) (s.cells cell)) takes
        ∙ ap (λ (told : Option (Option Datum)). unwrap_or told (s.cells cell)) said

    -- A cell that had the store's value has it.
    pub still_value : (cell : CellName) (value : Option Datum) → store_says unit store s.persons cell ≡ Some value
        → s.cells cell ≡ value → t.cells cell ≡ value
    still_value cell value said has = cell_after cell ∙ by (test cell)
      where
        by : (b : Bool) → picked b (store_says unit store s.persons cell) (s.cells cell) ≡ value
        by true = ap (λ (told : Option (Option Datum)). unwrap_or told (s.cells cell)) said
        by false = has

    -- What is taken after that is the same.
    pub taking_after : taking_in unit store t ≡ taking_in unit store s
    taking_after =
        ap (taking_in unit store) taken.run
        ∙ same_run s (taking_in unit store (taking_where test unit store s)).cells (taking_in unit store s).cells
        (λ c. picked_again (test c) (store_says unit store s.persons c) (s.cells c))

    pub fits_after : HasFittingGlobals unit s → HasFittingGlobals unit t
    fits_after fits cell =
        ap (fits_cell unit cell) (cell_after cell) ∙ by (test cell) refl (store_says unit store s.persons cell) refl
      where
        by : (b : Bool) → test cell ≡ b → (said : Option (Option Datum)) → store_says unit store s.persons cell ≡ said
            → fits_cell unit cell (picked b said (s.cells cell)) ≡ true
        by true takes None said = fits cell
        by true takes (Some value) said = taken.fitting cell value takes said
        by false leaves said is = fits cell

-- A run that has the store's value in each cell of a global property.
module _ (unit : Unit) (store : GlobalValues) (t : RunState)
    (has : (cell : CellName) (value : Option Datum) → store_says unit store t.persons cell ≡ Some value → t.cells cell ≡ value) where
  pub takes_nothing : t ≡ taking_in unit store t
  takes_nothing = same_run t t.cells (taking_in unit store t).cells (λ c. by c (store_says unit store t.persons c) refl)
    where
      by : (c : CellName) (said : Option (Option Datum)) → store_says unit store t.persons c ≡ said
          → t.cells c ≡ unwrap_or said (t.cells c)
      by c None is = refl
      by c (Some value) is = has c value is

  pub fits_all : HasFittingGlobals unit t → TakesFitting unit store t.persons
  fits_all fits cell value said = ap (fits_cell unit cell) (sym (has cell value said)) ∙ fits cell

-- ---- one cell

module _ (unit : Unit) (store : GlobalValues) (cell : CellName) (s : RunState) (value : Option Datum)
    (said : store_says unit store s.persons cell ≡ Some value) (fits : fits_cell unit cell value ≡ true) where
  pub taken_cell : HasTaken unit store (λ c. same_cell c cell) s (with_cell s cell value)
  taken_cell = record {
    run = same_run s (with_cell s cell value).cells (taking_where (λ c. same_cell c cell) unit store s).cells
        (λ c. each c (same_cell c cell) refl);
    fitting = λ c other is at. fitting_too c other (one_cell c cell is) at;
  }
    where
      each : (c : CellName) (b : Bool) → same_cell c cell ≡ b
          → cond b value (s.cells c) ≡ picked b (store_says unit store s.persons c) (s.cells c)
      each c true is =
          sym (ap (λ (told : Option (Option Datum)). unwrap_or told (s.cells c))
          (ap (store_says unit store s.persons) (one_cell c cell is) ∙ said))
      each c false is = refl

      fitting_too : (c : CellName) (other : Option Datum) → c ≡ cell → store_says unit store s.persons c ≡ Some other
          → fits_cell unit c other ≡ true
      fitting_too c other is at =
          ap (λ (one : CellName). fits_cell unit one other) is
          ∙ ap (fits_cell unit cell) (some_same (sym at ∙ ap (store_says unit store s.persons) is ∙ said))
          ∙ fits

  -- The cell has the value already.
  pub kept_cell : s.cells cell ≡ value → HasTaken unit store (λ c. same_cell c cell) s s
  kept_cell has = subst (HasTaken unit store (λ c. same_cell c cell) s) (sym unchanged) taken_cell
    where
      each : (c : CellName) (b : Bool) → same_cell c cell ≡ b → s.cells c ≡ cond b value (s.cells c)
      each c true is = ap s.cells (one_cell c cell is) ∙ has
      each c false is = refl

      unchanged : s ≡ with_cell s cell value
      unchanged = same_run s s.cells (with_cell s cell value).cells (λ c. each c (same_cell c cell) refl)
