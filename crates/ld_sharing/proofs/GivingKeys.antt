-- That the values which a run gives, written one by one, make up the store to which it has given all of them.
use Rattle.std.proofs.Common.{◌≡◌, refl, sym, ap, ap₂, subst, ◌∙◌, ℕ, ◌⊎◌, inl, inr, List, [], ◌∷◌, map, fold, length, slice_get, unwrap_or, Option, Some, None, Bool, true, false, cond, Contains}
use Rattle.std.proofs.lemmas.Bool.{and_from, eqb-false, eqb-true, true≢false}
use Rattle.std.specs.Bool.{◌==◌}
use Rattle.std.specs.Option.{option_eq, option_map}
use Rattle.std.specs.Str.{bytes_eq}
use Rattle.ld_globals.specs.Store.{Key, Store, key_at, same_key}
use Rattle.ld_globals.proofs.Since.{keys-equal}
use Rattle.ld_value.specs.Datum.{Datum, same_datum}
use Rattle.ld_model.specs.declared.cell.CellName.{CellName}
use Rattle.ld_model.specs.declared.unit.Unit.{Unit}
use Rattle.ld_names.proofs.Differing.{is_itself}
use Rattle.ld_expr.specs.Lookup.{list_from}
use Rattle.ld_firing.specs.RunSystem.{IsSoundRun}
use Rattle.ld_state.specs.GlobalValues.{GlobalValues}
use Rattle.ld_state.specs.RunCells.{all_cells, slot_of}
use Rattle.ld_state.specs.RunState.{RunState}
use Rattle.ld_state.proofs.Cells.{slot_stands}
use Rattle.ld_state.proofs.Elements.{IsIn, from_flat_map, in_flat_map, in_from_contains, some_same}
use Rattle.ld_state.proofs.SameCells.{one_value}
use Rattle.ld_sharing.specs.Changes.{IsGivenBut, key_of_cell}
use Rattle.ld_sharing.specs.GivenValues.{GivenValue, given_as, given_by, other_in_slot, other_of_cell, other_values, where_other}
use Rattle.ld_sharing.specs.Globals.{cell_of_key, giving_back}
use Rattle.ld_sharing.specs.StoreView.{Serves, values_of}
use Rattle.ld_sharing.specs.Writes.{with_shared_value, written_by}
use Rattle.ld_sharing.specs.declared.giving.Write.{Write}
use Rattle.ld_sharing.proofs.Currents.{value_itself}
use Rattle.ld_sharing.proofs.KeysOfCells.{cell_tells, key_stands, key_tells}
use Rattle.ld_sharing.proofs.UrisDiffer.{uris_differ}

-- ---- one value after another

abbrev pub with_given : GlobalValues → GivenValue → GlobalValues
with_given store given = with_shared_value store given.uri given.person given.value

pub writes_given : (store : GlobalValues) (writes : List Write)
    → fold written_by store writes ≡ fold with_given store (map given_by writes)
writes_given store [] = refl
writes_given store (write ∷ writes) = writes_given (written_by store write) writes

-- The key is given a value.
pub record HasKey (given : List GivenValue) (uri : List ℕ) (person : Option (List ℕ)) : Type 0 where
  pub one : GivenValue
  pub inside : IsIn given one
  pub uri_is : one.uri ≡ uri
  pub person_is : one.person ≡ person

abbrev is_key : List ℕ → Option (List ℕ) → GivenValue → Bool
is_key uri person given = same_key (key_at uri person) (key_at given.uri given.person)

key_itself : (uri : List ℕ) (person : Option (List ℕ)) → same_key (key_at uri person) (key_at uri person) ≡ true
key_itself uri None = and_from (bytes_eq uri uri) true (is_itself uri) refl
key_itself uri (Some name) = and_from (bytes_eq uri uri) (bytes_eq name name) (is_itself uri) (is_itself name)

-- Where each value given is the target's, a key has the target's value if it had it, or is given one.
module _ (target : GlobalValues) (uri : List ℕ) (person : Option (List ℕ)) where
  pub reached : (given : List GivenValue) → ((one : GivenValue) → IsIn given one → target one.uri one.person ≡ one.value)
      → (store : GlobalValues) → (store uri person ≡ target uri person) ⊎ HasKey given uri person
      → fold with_given store given uri person ≡ target uri person
  reached [] each store (inl has) = has
  reached [] each store (inr key) = absurd key.inside
  reached (one ∷ more) each store known =
      reached more (λ other inside. each other (inr inside)) (with_given store one) (next (is_key uri person one) refl known)
    where
      same_target : is_key uri person one ≡ true → target one.uri one.person ≡ target uri person
      same_target is =
          ap (λ key. target key.uri key.person) (sym (keys-equal (key_at uri person) (key_at one.uri one.person) is))

      further : is_key uri person one ≡ false → (key : HasKey (one ∷ more) uri person) → (one ≡ key.one) ⊎ IsIn more key.one
          → HasKey more uri person
      further other key (inl is) =
          absurd (true≢false (sym (key_itself uri person)
          ∙ ap₂ (λ u p. same_key (key_at uri person) (key_at u p))
          (sym (ap (λ g. g.uri) is ∙ key.uri_is)) (sym (ap (λ g. g.person) is ∙ key.person_is)) ∙ other))
      further other key (inr later) =
          record { one = key.one; inside = later; uri_is = key.uri_is; person_is = key.person_is }

      next : (b : Bool) → is_key uri person one ≡ b → (store uri person ≡ target uri person) ⊎ HasKey (one ∷ more) uri person
          → (with_given store one uri person ≡ target uri person) ⊎ HasKey more uri person
      next true is known =
          inl (ap (λ b. cond b one.value (store uri person)) is ∙ sym (each one (inl refl)) ∙ same_target is)
      next false is (inl has) = inl (ap (λ b. cond b one.value (store uri person)) is ∙ has)
      next false is (inr key) = inr (further is key key.inside)

-- ---- the values that differ

in_where : (store : GlobalValues) (one other : GivenValue) → IsIn (where_other store one) other → one ≡ other
in_where store one other inside = by (option_eq same_datum (store one.uri one.person) one.value) inside
  where
    by : (b : Bool) → IsIn (cond b [] (one ∷ [])) other → one ≡ other
    by true there = absurd there
    by false (inl is) = is
    by false (inr later) = absurd later

same_or_given : (store : GlobalValues) (one : GivenValue) → (store one.uri one.person ≡ one.value) ⊎ IsIn (where_other store one) one
same_or_given store one = by (option_eq same_datum (store one.uri one.person) one.value) refl
  where
    by : (b : Bool) → option_eq same_datum (store one.uri one.person) one.value ≡ b
        → (store one.uri one.person ≡ one.value) ⊎ IsIn (cond b [] (one ∷ [])) one
    by true is = inl (one_value (store one.uri one.person) one.value is)
    by false is = inr (inl refl)

another_value : (store : GlobalValues) (one other : GivenValue) → IsIn (where_other store one) other
    → store one.uri one.person ≡ one.value → ⊥
another_value store one other inside same = by (option_eq same_datum (store one.uri one.person) one.value) refl inside
  where
    by : (b : Bool) → option_eq same_datum (store one.uri one.person) one.value ≡ b → IsIn (cond b [] (one ∷ [])) other → ⊥
    by true is there = absurd there
    by false is there =
        absurd (true≢false (sym (value_itself one.value) ∙ ap (λ v. option_eq same_datum v one.value) (sym same) ∙ is))

-- What is known of a value that is given: it is that of the run's cell for the key, and the store has another.
pub record IsOther (unit : Unit) (s : RunState) (store : GlobalValues) (one : GivenValue) : Type 0 where
  pub cell : CellName
  pub cell_is : cell_of_key unit s.persons one.uri one.person ≡ Some cell
  pub value_is : s.cells cell ≡ one.value
  pub other : store one.uri one.person ≡ one.value → ⊥

-- A slot is among these or not.
told_or_not : (k : ℕ) (slots : List ℕ) → IsIn slots k ⊎ (IsIn slots k → ⊥)
told_or_not k [] = inr (λ there. there)
told_or_not k (slot ∷ slots) = by (slot == k) refl (told_or_not k slots)
  where
    later : (slot ≡ k → ⊥) → (IsIn slots k → ⊥) → IsIn (slot ∷ slots) k → ⊥
    later first rest (inl is) = first is
    later first rest (inr there) = rest there

    by : (b : Bool) → (slot == k) ≡ b → IsIn slots k ⊎ (IsIn slots k → ⊥) → IsIn (slot ∷ slots) k ⊎ (IsIn (slot ∷ slots) k → ⊥)
    by true is rest = inl (inl (eqb-true slot k is))
    by false is (inl there) = inl (inr there)
    by false is (inr none) = inr (later (eqb-false slot k is) none)

nothing_inside : {A : Type 0} → (xs : List A) → ((x : A) → IsIn xs x → ⊥) → xs ≡ []
nothing_inside [] none = refl
nothing_inside (x ∷ xs) none = absurd (none x (inl refl))

module _ (unit : Unit) (s : RunState) (store : Store) (slots : List ℕ) (sound : IsSoundRun unit s) (serves : Serves store unit) where
  abbrev values : GlobalValues
  values = values_of store

  abbrev listed : List GivenValue
  listed = other_values values unit s slots

  abbrev target : GlobalValues
  target = giving_back unit s values

  -- ---- what is listed

  of_cell : (cell : CellName) (one : GivenValue) → IsIn (other_of_cell values unit s cell) one → IsOther unit s values one
  of_cell cell one inside = by (key_of_cell unit s.persons cell) refl inside
    where
      by : (found : Option Key) → key_of_cell unit s.persons cell ≡ found
          → IsIn (list_from (λ key. where_other values (given_as (s.cells cell) key)) found) one → IsOther unit s values one
      by None is there = absurd there
      by (Some key) is there =
          let given = given_as (s.cells cell) key in
          subst (IsOther unit s values) (in_where values given one there)
          (record {
            cell = cell;
            cell_is = key_tells unit s.persons (uris_differ unit sound.valid) sound.names cell key is;
            value_is = refl;
            other = another_value values given one there;
          })

  of_slot : (slot : ℕ) (one : GivenValue) → IsIn (other_in_slot values unit s slot) one → IsOther unit s values one
  of_slot slot one inside = by (slice_get (all_cells unit (length s.persons)) slot) inside
    where
      by : (found : Option CellName) → IsIn (list_from (other_of_cell values unit s) found) one → IsOther unit s values one
      by None there = absurd there
      by (Some cell) there = of_cell cell one there

  pub each_other : (one : GivenValue) → IsIn listed one → IsOther unit s values one
  each_other one inside =
      let it = from_flat_map (other_in_slot values unit s) slots one inside in
      of_slot it.element one it.gives

  abbrev from_cell : List ℕ → Option (List ℕ) → Option CellName → Option Datum
  from_cell uri person found = unwrap_or (option_map s.cells found) (values uri person)

  each_target : (one : GivenValue) → IsIn listed one → target one.uri one.person ≡ one.value
  each_target one inside =
      let it = each_other one inside in
      ap (from_cell one.uri one.person) it.cell_is ∙ it.value_is

  -- ---- that it is all

  -- A key whose cell has a slot that was told is listed, where the store has another value.
  module _ (uri : List ℕ) (person : Option (List ℕ)) (cell : CellName) (is : cell_of_key unit s.persons uri person ≡ Some cell) where
    abbrev given : GivenValue
    given = given_as (s.cells cell) (key_at uri person)

    told : (slot : ℕ) → slice_get (all_cells unit (length s.persons)) slot ≡ Some cell → IsIn slots slot
        → IsIn (where_other values given) given → IsIn listed given
    told slot at there inside =
        in_flat_map (other_in_slot values unit s) slots slot given there
        (subst (λ found. IsIn (list_from (other_of_cell values unit s) found) given) (sym at)
        (subst (λ found. IsIn (list_from (λ key. where_other values (given_as (s.cells cell) key)) found) given)
        (sym (cell_tells unit sound.valid store serves s.persons uri person cell is)) inside))

    untold : (slot : ℕ) → slice_get (all_cells unit (length s.persons)) slot ≡ Some cell → (IsIn slots slot → ⊥)
        → (k : ℕ) → slot_of unit (length s.persons) cell ≡ Some k → Contains slots k → ⊥
    untold slot at none k found there =
        none (subst (IsIn slots) (some_same (sym found ∙ slot_stands unit (length s.persons) slot cell at))
        (in_from_contains slots k there))

  module _ (others : IsGivenBut unit s store slots) where
    known : (uri : List ℕ) (person : Option (List ℕ)) → (values uri person ≡ target uri person) ⊎ HasKey listed uri person
    known uri person = by (cell_of_key unit s.persons uri person) refl
      where
        has_cell : (cell : CellName) → cell_of_key unit s.persons uri person ≡ Some cell
            → target uri person ≡ s.cells cell
        has_cell cell is = ap (from_cell uri person) is

        differs : (cell : CellName) (is : cell_of_key unit s.persons uri person ≡ Some cell) (slot : ℕ)
            → slice_get (all_cells unit (length s.persons)) slot ≡ Some cell → IsIn slots slot
            → (values uri person ≡ s.cells cell) ⊎ IsIn (where_other values (given uri person cell is)) (given uri person cell is)
            → (values uri person ≡ target uri person) ⊎ HasKey listed uri person
        differs cell is slot at there (inl same) = inl (same ∙ sym (has_cell cell is))
        differs cell is slot at there (inr other) =
            inr (record {
              one = given uri person cell is;
              inside = told uri person cell is slot at there other;
              uri_is = refl;
              person_is = refl;
            })

        stands : (cell : CellName) (is : cell_of_key unit s.persons uri person ≡ Some cell) (slot : ℕ)
            → slice_get (all_cells unit (length s.persons)) slot ≡ Some cell → IsIn slots slot ⊎ (IsIn slots slot → ⊥)
            → (values uri person ≡ target uri person) ⊎ HasKey listed uri person
        stands cell is slot at (inl there) =
            differs cell is slot at there (same_or_given values (given uri person cell is))
        stands cell is slot at (inr none) =
            inl (sym (others uri person cell is (untold uri person cell is slot at none)) ∙ sym (has_cell cell is))

        by : (found : Option CellName) → cell_of_key unit s.persons uri person ≡ found
            → (values uri person ≡ target uri person) ⊎ HasKey listed uri person
        by None is = inl (sym (ap (from_cell uri person) is))
        by (Some cell) is =
            let it = key_stands unit sound.valid store serves s.persons uri person cell is in
            stands cell is it.number it.at (told_or_not it.number slots)

    pub all_given : fold with_given values listed ≡ giving_back unit s values
    all_given = λ i uri person. reached target uri person listed each_target values (known uri person) i

  -- Nothing is listed where the store has all values.
  pub none_listed : IsGivenBut unit s store [] → listed ≡ []
  none_listed all = nothing_inside listed (λ one inside. none one (each_other one inside))
    where
      none : (one : GivenValue) → IsOther unit s values one → ⊥
      none one it =
          it.other (sym (all one.uri one.person it.cell it.cell_is (λ slot found there. not_there slot there)) ∙ it.value_is)
        where
          not_there : (slot : ℕ) → Contains [] slot → ⊥
          not_there slot there = in_from_contains [] slot there
