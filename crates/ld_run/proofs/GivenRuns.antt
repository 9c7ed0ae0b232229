-- A run has the store's values but in the slots that were told: as it takes them in, as it settles, and once a command
-- has changed it.
use Rattle.std.proofs.Common.{◌≡◌, refl, sym, ap, ap₂, subst, ◌∙◌, ◌&&◌, ℕ, zero, suc, ℤ, ◌+◌, ◌<◌, List, [], ◌∷◌, ◌++◌, length, slice_get, Option, Some, None, Bool, true, false, is_some, cond, Contains, unwrap_or, option_map, if◌then◌else◌, length-append, arith, inl, inr}
use Rattle.std.proofs.lemmas.Bool.{cases_eq, eq-eqb}
use Rattle.std.proofs.lemmas.Option.{slice_get_read}
use Rattle.std.proofs.lemmas.Slice.Eq.{bytes_eq-Decides}
use Rattle.std.proofs.Math.Seq.{get_or-append_seam}
use Rattle.std.specs.List.{position_from}
use Rattle.std.specs.Str.{bytes_eq}
use Rattle.ld_base.specs.Maybe.{◌>>=◌}
use Rattle.ld_globals.specs.Store.{Store, key_at, value_at}
use Rattle.ld_value.specs.Datum.{Datum, moment_datum, same_truth, truth_datum}
use Rattle.ld_model.specs.Counting.{number_where}
use Rattle.ld_model.specs.Properties.{initial_of}
use Rattle.ld_model.specs.declared.cell.CellName.{CellName}
use Rattle.ld_model.specs.declared.cell.CellName.TheVariants.{Started}
use Rattle.ld_model.specs.declared.cell.Owner.{Owner}
use Rattle.ld_model.specs.declared.cell.Owner.TheVariants.{Run, Person}
use Rattle.ld_model.specs.declared.property.Property.{Property}
use Rattle.ld_model.specs.declared.unit.Unit.{Unit}
use Rattle.ld_names.specs.Holders.{holder_of, is_held_by_persons}
use Rattle.ld_refs.specs.Checks.{IsValid}
use Rattle.ld_expr.specs.Lookup.{is_some_and}
use Rattle.ld_expr.specs.Owners.{of_person}
use Rattle.ld_expr.specs.Seen.{chosen_cell, opened_cell, property_cell}
use Rattle.ld_roles.specs.Persons.{PersonState, Persons, changed_at, newcomer, person_number, with_role}
use Rattle.ld_state.specs.RunCells.{all_cells, begins_as, property_begins, slot_of, stored_value}
use Rattle.ld_state.specs.RunState.{RunState, cell_of, holding, is_cell_of, joined, with_cell}
use Rattle.ld_state.proofs.Cells.{slot_stands}
use Rattle.ld_state.proofs.Elements.{IsIn, contains_from_in, in_from_contains, in_left, in_right, none_is_some, some_same, stands_in}
use Rattle.ld_state.proofs.Memberships.{changed_count}
use Rattle.ld_firing.specs.RunSystem.{content_of}
use Rattle.ld_firing.specs.Telling.{Tells}
use Rattle.ld_firing.proofs.CellsThere.{value_there}
use Rattle.ld_firing.proofs.Found.{found_by, number_there}
use Rattle.ld_firing.proofs.Growing.{slot_stays}
use Rattle.ld_firing.proofs.Named.{held_as}
use Rattle.ld_firing.proofs.Sites.{IsOwner, a_person, the_run}
use Rattle.ld_settling.specs.SettlingTold.{TellsSlots}
use Rattle.ld_sharing.specs.Changes.{IsGivenBut}
use Rattle.ld_sharing.specs.Globals.{cell_of_key, has_uri, taking_in}
use Rattle.ld_sharing.specs.Readable.{IsOwnerAmong, IsShared, is_person}
use Rattle.ld_sharing.specs.StoreView.{Serves, values_of}
use Rattle.ld_sharing.proofs.KeyCells.{asked_among, key_cell, key_said, shared_found}
use Rattle.ld_admission.specs.Commands.{Admitted, enrols, assigns, drops, starts, opens, completes, sets, clears, gets, shows_tree, shows_outbox, reports, ticks, shows_next}
use Rattle.ld_run.specs.Changes.{changes_persons, directly_changed, renews_sites, with_first, written_directly}
use Rattle.ld_run.proofs.Joining.{joining_leaves, not_joining}

-- ---- lists

first_of : (xs ys : List ℕ) (k : ℕ) → Contains xs k → Contains (xs ++ ys) k
first_of xs ys k there = contains_from_in (xs ++ ys) k (in_left xs ys k (in_from_contains xs k there))

second_of : (xs ys : List ℕ) (k : ℕ) → Contains ys k → Contains (xs ++ ys) k
second_of xs ys k there = contains_from_in (xs ++ ys) k (in_right xs ys k (in_from_contains ys k there))

-- What is found among the first elements is found without those behind them.
found_before : {A : Type 0} → (test : A → Bool) (xs ys : List A) (n p : ℕ) → position_from test n (xs ++ ys) ≡ Some p
    → p < n + length xs → position_from test n xs ≡ Some p
found_before test [] ys n p is within = let at = found_by test ys n p is in absurd (omega (arith, at.sum, within))
found_before test (x ∷ xs) ys n p is within =
    by (λ later. found_before test xs ys (n + 1) p later (omega (arith, within))) (test x) is
  where
    by : (position_from test (n + 1) (xs ++ ys) ≡ Some p → position_from test (n + 1) xs ≡ Some p) → (b : Bool)
        → cond b (Some n) (position_from test (n + 1) (xs ++ ys)) ≡ Some p
        → cond b (Some n) (position_from test (n + 1) xs) ≡ Some p
    by rest true is = is
    by rest false is = rest is

-- A role that is given or taken changes no name.
names_stay : (name : List ℕ) (role : ℕ) (held : Bool) (p : ℕ) (xs : Persons) (n : ℕ)
    → position_from (λ (one : PersonState). bytes_eq name one.name) n (changed_at (with_role role held) p xs)
    ≡ position_from (λ (one : PersonState). bytes_eq name one.name) n xs
names_stay name role held p [] n = refl
names_stay name role held zero (x ∷ xs) n = refl
names_stay name role held (suc p) (x ∷ xs) n =
    ap (cond (bytes_eq name x.name) (Some n)) (names_stay name role held p xs (n + 1))

-- Of a run that does not settle nothing is to be told.
pub settles_not : (unit : Unit) (s : RunState) (told : List ℕ) → TellsSlots unit s s told told
settles_not unit s told = record {
  persons = refl;
  seats = refl;
  kept = λ k there. there;
  slots = λ k there. inl there;
  untold = λ k untold. refl;
}

module _ (unit : Unit) (valid : IsValid unit) (store : Store) (serves : Serves store unit) where
  -- A cell that has a key in the store is one that the run has.
  key_cell_there : (persons : Persons) (uri : List ℕ) (person : Option (List ℕ)) (cell : CellName)
      → cell_of_key unit persons uri person ≡ Some cell → IsIn (all_cells unit (length persons)) cell
  key_cell_there persons uri person cell is =
      let k = key_cell unit valid store serves persons uri person cell is in
      let one = k.shared.property in
      subst (IsIn (all_cells unit (length persons))) (sym k.cell_is)
      (value_there unit (length persons) k.number one k.owner k.shared.at (is_person k.owner) (held_as one.kind ∙ k.shared.personal_is)
      (owned (length persons) k.owner (asked_among persons k.owner person k.asked)))
    where
      owned : (n : ℕ) (owner : Owner) → IsOwnerAmong n owner → IsOwner n (is_person owner) owner
      owned n Run among = the_run
      owned n (Person p) among = a_person p.0 among

  -- Such a cell is seen at its slot.
  key_cell_seen : (s : RunState) (uri : List ℕ) (person : Option (List ℕ)) (cell : CellName)
      → cell_of_key unit s.persons uri person ≡ Some cell → cell_of unit s cell ≡ s.cells cell
  unfolding cell_of
  key_cell_seen s uri person cell is =
      let k = key_cell unit valid store serves s.persons uri person cell is in
      subst (λ one. cell_of unit s one ≡ s.cells one) (sym k.cell_is) refl

  -- A run that has taken in the store's values has them all.
  pub taken_given : (s : RunState) → IsGivenBut unit (taking_in unit (values_of store) s) store []
  taken_given s uri person cell is untold =
      ap (λ said. unwrap_or said (s.cells cell)) (key_said unit valid store serves s.persons uri person cell is)

  -- What was not told is as it was.
  pub given_on : (s t : RunState) (before told all : List ℕ) → IsGivenBut unit s store before → t.persons ≡ s.persons
      → ((k : ℕ) → (Contains told k → ⊥) → content_of unit s k ≡ content_of unit t k)
      → ((k : ℕ) → Contains before k → Contains all k) → ((k : ℕ) → Contains told k → Contains all k)
      → IsGivenBut unit t store all
  given_on s t before told all had same stays kept more uri person cell is untold =
      let was : cell_of_key unit s.persons uri person ≡ Some cell =
      subst (λ persons. cell_of_key unit persons uri person ≡ Some cell) same is in
      let stands = stands_in (all_cells unit (length s.persons)) cell (key_cell_there s.persons uri person cell was) in
      let k = stands.number in
      let slot = slot_stands unit (length s.persons) k cell stands.at in
      let at : slice_get (all_cells unit (length t.persons)) k ≡ Some cell =
      subst (λ (persons : Persons). slice_get (all_cells unit (length persons)) k ≡ Some cell) (sym same) stands.at in
      let left = untold k (subst (λ (persons : Persons). slot_of unit (length persons) cell ≡ Some k) (sym same) slot) in
      sym (key_cell_seen t uri person cell is)
      ∙ sym (ap (λ found. found >>= cell_of unit t) at)
      ∙ sym (stays k (λ there. left (more k there)))
      ∙ ap (λ found. found >>= cell_of unit s) stands.at
      ∙ key_cell_seen s uri person cell was
      ∙ had uri person cell was (λ j is_at there.
      untold j (subst (λ (persons : Persons). slot_of unit (length persons) cell ≡ Some j) (sym same) is_at) (kept j there))

  -- A run with the same keys and as many persons, in which the values of all properties are the same.
  given_as : (s t : RunState) (before all : List ℕ) → IsGivenBut unit s store before
      → ((uri : List ℕ) (person : Option (List ℕ)) → cell_of_key unit t.persons uri person ≡ cell_of_key unit s.persons uri person)
      → length t.persons ≡ length s.persons
      → ((n : ℕ) (owner : Owner) → t.cells (property_cell n owner) ≡ s.cells (property_cell n owner))
      → ((k : ℕ) → Contains before k → Contains all k) → IsGivenBut unit t store all
  given_as s t before all had keys count cells kept uri person cell is untold =
      let was = sym (keys uri person) ∙ is in
      let k = key_cell unit valid store serves s.persons uri person cell was in
      subst (λ one. t.cells one ≡ s.cells one) (sym k.cell_is) (cells k.number k.owner)
      ∙ had uri person cell was (λ j is_at there.
      untold j (subst (λ n. slot_of unit n cell ≡ Some j) (sym count) is_at) (kept j there))

  -- More may be told.
  more_given : (s : RunState) (before told : List ℕ) → IsGivenBut unit s store before → IsGivenBut unit s store (before ++ told)
  more_given s before told had =
      given_as s s before (before ++ told) had (λ uri person. refl) refl (λ n owner. refl) (first_of before told)

  -- A write to a cell that is none of a property.
  started_given : (s : RunState) (value : Option Datum) (before told : List ℕ) → IsGivenBut unit s store before
      → IsGivenBut unit (with_cell s Started value) store (before ++ told)
  started_given s value before told had =
      given_as s (with_cell s Started value) before (before ++ told) had (λ uri person. refl) refl (λ n owner. refl) (first_of before told)

  chosen_given : (s : RunState) (thing p : ℕ) (value : Option Datum) (before told : List ℕ) → IsGivenBut unit s store before
      → IsGivenBut unit (with_cell s (chosen_cell thing p) value) store (before ++ told)
  chosen_given s thing p value before told had =
      given_as s (with_cell s (chosen_cell thing p) value) before (before ++ told) had (λ uri person. refl) refl (λ n owner. refl) (first_of before told)

  opened_given : (s : RunState) (thing p : ℕ) (value : Datum) (before told : List ℕ) → IsGivenBut unit s store before
      → IsGivenBut unit (with_first s (opened_cell thing (of_person p)) value) store (before ++ told)
  opened_given s thing p value before told had = by (is_some (s.cells (opened_cell thing (of_person p))))
    where
      by : (there : Bool)
          → IsGivenBut unit (if there then s else with_cell s (opened_cell thing (of_person p)) (Some value)) store (before ++ told)
      by true = more_given s before told had
      by false =
          given_as s (with_cell s (opened_cell thing (of_person p)) (Some value)) before (before ++ told) had (λ uri person. refl) refl (λ n owner. refl)
          (first_of before told)

  holding_given : (s : RunState) (p role : ℕ) (held : Bool) (before told : List ℕ) → IsGivenBut unit s store before
      → IsGivenBut unit (holding s p role held) store (before ++ told)
  holding_given s p role held before told had =
      given_as s (holding s p role held) before (before ++ told) had keys (changed_count (with_role role held) p s.persons)
      (λ n owner. refl) (first_of before told)
    where
      keys : (uri : List ℕ) (person : Option (List ℕ))
          → cell_of_key unit (holding s p role held).persons uri person ≡ cell_of_key unit s.persons uri person
      keys uri None = refl
      keys uri (Some name) =
          ap (λ found. number_where (has_uri uri true) unit.properties >>= λ n. found >>= λ q. Some (property_cell n (of_person q)))
          (names_stay name role held p s.persons 0)

  -- ---- a person joins

  module _ (s : RunState) (moment : ℤ) (name : List ℕ) where
    abbrev after : RunState
    after = joined unit (values_of store) s moment name

    abbrev n : ℕ
    n = length s.persons

    counted : length after.persons ≡ n + 1
    counted = length-append s.persons (newcomer name ∷ [])

    -- Who joins stands behind the others.
    last_stands : slice_get after.persons n ≡ Some (newcomer name)
    last_stands = slice_get_read after.persons (n + 1) n (newcomer name) (sym counted) (omega arith) (sym (get_or-append_seam s.persons (newcomer name) [] (newcomer name)))

    -- The newcomer has the store's values.
    own_value : (number p : ℕ) (uri : List ℕ) → IsShared unit store number uri true → p ≡ n
        → after.cells (property_cell number (of_person p)) ≡ value_at store (key_at uri (Some name))
    unfolding begins_as
    own_value number p uri shared last =
        let one = shared.property in
        let left = s.cells (property_cell number (of_person p)) in
        let begin : Option Property → Option Datum = λ found. found >>= property_begins (values_of store) (Some name) in
        let held : Option Property → Bool = is_some_and (λ property. is_held_by_persons (holder_of unit property)) in
        ap (λ b. if b && held (slice_get unit.properties number) then begin (slice_get unit.properties number) else left) (eq-eqb p n last)
        ∙ ap (λ found. if held found then begin found else left) shared.at
        ∙ ap (λ b. if b then property_begins (values_of store) (Some name) one else left) (held_as one.kind ∙ shared.personal_is)
        ∙ ap (λ b. if b then stored_value (values_of store) (Some name) one else initial_of one) shared.global
        ∙ ap (λ b. if same_truth b true then (one.uri >>= λ u. values_of store u (Some name)) else None) shared.personal_is
        ∙ ap (λ (o : Option (List ℕ)). o >>= λ u. values_of store u (Some name)) shared.named

    -- A cell that the run had stands at the slot at which it stood.
    slot_kept : (uri : List ℕ) (person : Option (List ℕ)) (cell : CellName) → cell_of_key unit s.persons uri person ≡ Some cell
        → (j : ℕ) → slot_of unit n cell ≡ Some j → slot_of unit (length after.persons) cell ≡ Some j
    slot_kept uri person cell was j is =
        ap (λ m. slot_of unit m cell) counted
        ∙ sym (slot_stays unit n (n + 1) cell (omega arith) (key_cell_there s.persons uri person cell was)) ∙ is

    module _ (before told : List ℕ) (had : IsGivenBut unit s store before) where
      old_value : (uri : List ℕ) (person : Option (List ℕ)) (cell : CellName) → cell_of_key unit s.persons uri person ≡ Some cell
          → is_cell_of n cell ≡ false
          → ((k : ℕ) → slot_of unit (length after.persons) cell ≡ Some k → Contains (before ++ told) k → ⊥)
          → after.cells cell ≡ value_at store (key_at uri person)
      old_value uri person cell was other untold =
          joining_leaves unit (values_of store) s moment name cell other
          ∙ had uri person cell was (λ j is there. untold j (slot_kept uri person cell was j is) (first_of before told j there))

      value : (uri : List ℕ) (person : Option (List ℕ)) (cell : CellName) → cell_of_key unit after.persons uri person ≡ Some cell
          → ((k : ℕ) → slot_of unit (length after.persons) cell ≡ Some k → Contains (before ++ told) k → ⊥)
          → after.cells cell ≡ value_at store (key_at uri person)
      value uri None cell is untold = by (number_where (has_uri uri false) unit.properties) is
        where
          by : (found : Option ℕ) → option_map (λ m. property_cell m Run) found ≡ Some cell
              → after.cells cell ≡ value_at store (key_at uri None)
          by None none = none_is_some none
          by (Some m) some = old_value uri None cell is (ap (is_cell_of n) (sym (some_same some))) untold
      value uri (Some who) cell is untold =
          by (number_where (has_uri uri true) unit.properties) refl (person_number after.persons who) refl is
        where
          by : (found : Option ℕ) → number_where (has_uri uri true) unit.properties ≡ found
              → (place : Option ℕ) → person_number after.persons who ≡ place
              → (found >>= λ m. place >>= λ p. Some (property_cell m (of_person p))) ≡ Some cell
              → after.cells cell ≡ value_at store (key_at uri (Some who))
          by None none place at some = none_is_some some
          by (Some m) number None at some = none_is_some some
          by (Some m) number (Some p) at some = elim (cases_eq p n) [
            | inl last ↦
                let found = found_by (λ (one : PersonState). bytes_eq who one.name) after.persons 0 p at in
                let same : found.element ≡ newcomer name =
                some_same (sym found.at ∙ ap (slice_get after.persons) (omega (arith, found.sum, last)) ∙ last_stands) in
                let named : who ≡ name = (bytes_eq-Decides who found.element.name).0 found.passes ∙ ap (λ (one : PersonState). one.name) same in
                let shared = shared_found unit valid store serves after.persons uri (Some who) m (of_person p) (is ∙ sym some) in
                ap after.cells (sym (some_same some)) ∙ own_value m p uri shared last
                ∙ ap (λ one. value_at store (key_at uri (Some one))) (sym named)
            | inr apart ↦
                let below : p < n = omega (arith, number_there (λ (one : PersonState). bytes_eq who one.name) after.persons p at, counted, apart) in
                let was : person_number s.persons who ≡ Some p =
                found_before (λ (one : PersonState). bytes_eq who one.name) s.persons (newcomer name ∷ []) 0 p at (omega (arith, below)) in
                old_value uri (Some who) cell
                (ap₂ (λ (one two : Option ℕ). one >>= λ k. two >>= λ q. Some (property_cell k (of_person q))) number was ∙ some)
                (ap (is_cell_of n) (sym (some_same some)) ∙ not_joining s (of_person p) below) untold
          ]

      pub joined_given : IsGivenBut unit after store (before ++ told)
      joined_given = value

  -- ---- what a command changes

  pub changed_given : (s t : RunState) (moment : ℤ) (command : Admitted) (before told : List ℕ)
      → t ≡ directly_changed unit (values_of store) s moment command
      → (renews_sites command ≡ false → changes_persons command ≡ false → Tells unit s t [] told)
      → IsGivenBut unit s store before → IsGivenBut unit t store (before ++ written_directly command told)
  changed_given s t moment command before told is tells had = by command is tells
    where
      write : Tells unit s t [] told → IsGivenBut unit t store (before ++ told)
      write tell = given_on s t before told (before ++ told) had tell.persons tell.untold (first_of before told) (second_of before told)

      by : (one : Admitted) → t ≡ directly_changed unit (values_of store) s moment one
          → (renews_sites one ≡ false → changes_persons one ≡ false → Tells unit s t [] told)
          → IsGivenBut unit t store (before ++ written_directly one told)
      by (enrols name) is tells = subst (λ r. IsGivenBut unit r store (before ++ [])) (sym is) (joined_given s moment name before [] had)
      by (assigns p role) is tells = subst (λ r. IsGivenBut unit r store (before ++ [])) (sym is) (holding_given s p role true before [] had)
      by (drops p role) is tells = subst (λ r. IsGivenBut unit r store (before ++ [])) (sym is) (holding_given s p role false before [] had)
      by starts is tells = subst (λ r. IsGivenBut unit r store (before ++ [])) (sym is) (started_given s (Some (moment_datum moment)) before [] had)
      by (opens p thing) is tells =
          subst (λ r. IsGivenBut unit r store (before ++ [])) (sym is) (opened_given s thing p (moment_datum moment) before [] had)
      by (completes p thing) is tells =
          subst (λ r. IsGivenBut unit r store (before ++ [])) (sym is) (chosen_given s thing p (Some (truth_datum true)) before [] had)
      by (sets cell value) is tells = write (tells refl refl)
      by (clears cell) is tells = write (tells refl refl)
      by (gets cell) is tells = subst (λ r. IsGivenBut unit r store (before ++ [])) (sym is) (more_given s before [] had)
      by (shows_tree p) is tells = subst (λ r. IsGivenBut unit r store (before ++ [])) (sym is) (more_given s before [] had)
      by (shows_outbox p) is tells = subst (λ r. IsGivenBut unit r store (before ++ [])) (sym is) (more_given s before [] had)
      by reports is tells = subst (λ r. IsGivenBut unit r store (before ++ [])) (sym is) (more_given s before [] had)
      by ticks is tells = subst (λ r. IsGivenBut unit r store (before ++ [])) (sym is) (more_given s before [] had)
      by shows_next is tells = subst (λ r. IsGivenBut unit r store (before ++ [])) (sym is) (more_given s before [] had)
