-- A run takes the values of the keys that were written since a stamp, one after the other.
use Rattle.std.proofs.Common.{◌≡◌, refl, sym, ap, ◌∙◌, ℕ, ◌⊎◌, inl, inr, List, [], ◌∷◌, Option, Some, Bool, true, false, Contains, ◌↔◌, IsTrue}
use Rattle.ld_globals.specs.Store.{Key, Store, key_at, value_at, written_since}
use Rattle.ld_value.specs.Datum.{Datum}
use Rattle.ld_model.specs.Cells.{same_cell}
use Rattle.ld_model.specs.declared.cell.CellName.{CellName}
use Rattle.ld_model.specs.declared.unit.Unit.{Unit}
use Rattle.ld_refs.specs.Checks.{IsValid}
use Rattle.ld_expr.specs.Lookup.{is_some_and}
use Rattle.ld_roles.specs.Roster.{Persons}
use Rattle.ld_firing.specs.RunSystem.{HaveNamesOfTheirOwn}
use Rattle.ld_state.specs.RunState.{RunState}
use Rattle.ld_state.proofs.Elements.{IsIn, in_from_contains}
use Rattle.ld_state.proofs.SameCells.{same_cell_itself}
use Rattle.ld_sharing.specs.Current.{IsCurrentAsOf}
use Rattle.ld_sharing.specs.Globals.{cell_of_key, store_says}
use Rattle.ld_sharing.specs.StoreView.{Serves, values_of}
use Rattle.ld_sharing.specs.Taken.{HasTaken, is_cell_of_key}
use Rattle.ld_sharing.proofs.KeyCells.{key_said}
use Rattle.ld_sharing.proofs.KeysSaid.{said_by}
use Rattle.ld_sharing.proofs.TakingCells.{same_persons, still_value, taken_value}
use Rattle.ld_sharing.proofs.UrisDiffer.{uris_differ}

-- Each cell of the run that has a key in the store has the value of that key, unless the key is among those that
-- are left.
abbrev pub HasAllBut : List Key → Unit → Store → RunState → Type 0
HasAllBut left unit store s =
    (uri : List ℕ) (person : Option (List ℕ)) (cell : CellName)
    → cell_of_key unit s.persons uri person ≡ Some cell
    → IsIn left (key_at uri person) ⊎ (s.cells cell ≡ value_at store (key_at uri person))

-- At first the keys are left that were written since the stamp.
pub all_but_written : (unit : Unit) (s : RunState) (stamp : ℕ) (store : Store) (keys : List Key)
    → ((key : Key) → Contains keys key ↔ IsTrue (written_since store stamp key))
    → IsCurrentAsOf unit s stamp store → HasAllBut keys unit store s
all_but_written unit s stamp store keys exactly current uri person cell is =
    by (written_since store stamp (key_at uri person)) refl
  where
    by : (since : Bool) → written_since store stamp (key_at uri person) ≡ since
        → IsIn keys (key_at uri person) ⊎ (s.cells cell ≡ value_at store (key_at uri person))
    by true since = inl (in_from_contains keys (key_at uri person) ((exactly (key_at uri person)).1 since))
    by false before = inr (current.values uri person cell is before)

module _ (unit : Unit) (valid : IsValid unit) (store : Store) (serves : Serves store unit) where
  -- One of them is taken.
  pub all_but_next : (key : Key) (left : List Key) (t u : RunState) → HasAllBut (key ∷ left) unit store t
      → HasTaken unit (values_of store) (is_cell_of_key unit t.persons key) t u → HasAllBut left unit store u
  all_but_next key left t u before taken uri person cell is = by (before uri person cell own)
    where
      persons : u.persons ≡ t.persons
      persons = same_persons unit (values_of store) (is_cell_of_key unit t.persons key) t u taken

      own : cell_of_key unit t.persons uri person ≡ Some cell
      own = ap (λ (those : Persons). cell_of_key unit those uri person) (sym persons) ∙ is

      said : store_says unit (values_of store) t.persons cell ≡ Some (value_at store (key_at uri person))
      said = key_said unit valid store serves t.persons uri person cell own

      tested : key ≡ key_at uri person → is_cell_of_key unit t.persons key cell ≡ true
      tested same =
          ap (λ (one : Key). is_some_and (same_cell cell) (cell_of_key unit t.persons one.uri one.person)) same
          ∙ ap (is_some_and (same_cell cell)) own
          ∙ same_cell_itself cell

      by : IsIn (key ∷ left) (key_at uri person) ⊎ (t.cells cell ≡ value_at store (key_at uri person))
          → IsIn left (key_at uri person) ⊎ (u.cells cell ≡ value_at store (key_at uri person))
      by (inl (inl same)) =
          inr (taken_value unit (values_of store) (is_cell_of_key unit t.persons key) t u taken cell
          (value_at store (key_at uri person)) said (tested same))
      by (inl (inr later)) = inl later
      by (inr has) =
          inr (still_value unit (values_of store) (is_cell_of_key unit t.persons key) t u taken cell
          (value_at store (key_at uri person)) said has)

  -- Where none is left, the run has the store's value in each cell of a global property.
  pub has_all : (t : RunState) → HaveNamesOfTheirOwn t.persons → HasAllBut [] unit store t → (cell : CellName) (value : Option Datum)
      → store_says unit (values_of store) t.persons cell ≡ Some value → t.cells cell ≡ value
  has_all t names all cell value said =
      let key = said_by unit (values_of store) t.persons (uris_differ unit valid) names cell value said in
      by key.uri key.person (all key.uri key.person cell key.cell_is) ∙ key.value_is
    where
      by : (uri : List ℕ) (person : Option (List ℕ)) → IsIn [] (key_at uri person) ⊎ (t.cells cell ≡ value_at store (key_at uri person))
          → t.cells cell ≡ value_at store (key_at uri person)
      by uri person (inl none) = absurd none
      by uri person (inr has) = has
