-- What is given of the cell that has a slot.
use Rattle.std.proofs.Common.{◌≡◌, refl, sym, ap, ◌∙◌, ℕ, zero, suc, drop, get_or, ◌<◌, ◌+◌, ◌⊎◌, inl, inr, List, [], ◌∷◌, flat_map, length, slice_get, Option, Some, None, Bool, true, false, is_some, arith}
use Rattle.std.proofs.lemmas.Option.{slice_get_within}
use Rattle.std.specs.List.{cons_option}
use Rattle.std.specs.Option.{option_and_then, option_map}
use Rattle.ld_base.specs.Maybe.{◌>>=◌}
use Rattle.ld_base.specs.Numbers.{numbers_below}
use Rattle.ld_globals.specs.Store.{Key, key_at}
use Rattle.ld_model.specs.Properties.{is_personal}
use Rattle.ld_model.specs.declared.cell.Owner.{Owner}
use Rattle.ld_model.specs.declared.cell.Owner.TheVariants.{Run, Person}
use Rattle.ld_model.specs.declared.property.Property.{Property}
use Rattle.ld_model.specs.declared.unit.Unit.{Unit}
use Rattle.ld_names.specs.Holders.{holder_of, is_held_by_persons, is_held_by_run}
use Rattle.ld_expr.specs.Lookup.{is_some_and}
use Rattle.ld_expr.specs.Seen.{property_cell}
use Rattle.ld_roles.specs.Roster.{PersonState, Persons}
use Rattle.ld_rules.specs.PreparedView.{uri_at}
use Rattle.ld_state.specs.Codes.{sort_of}
use Rattle.ld_state.specs.Layout.{Layout, cells_in}
use Rattle.ld_state.specs.RunCells.{all_cells, is_kept_by_run, is_kept_for_persons, person_cells, run_cells}
use Rattle.ld_state.specs.StateView.{IsStateOf, StateView, run_of}
use Rattle.ld_state.proofs.Elements.{different, from_flat_map, in_either, in_stands, none_is_some, some_same}
use Rattle.ld_state.proofs.Kept.{there_is_kept}
use Rattle.ld_state.proofs.KeptForPersons.{IsMember, kept_or_member}
use Rattle.ld_state.proofs.Laid.{cells_laid}
use Rattle.ld_state.proofs.SeenSame.{persons_counted}
use Rattle.ld_sharing.specs.Changes.{count_of, key_of_cell}
use Rattle.ld_sharing.specs.Globals.{store_person}

-- ---- the cell that has a slot

pub slot_here : (unit : Unit) (s : StateView) → IsStateOf unit s → (slot : ℕ)
    → slice_get (cells_in s.layout (length s.rows)) slot ≡ slice_get (all_cells unit (length (run_of s).persons)) slot
slot_here unit s own slot =
    ap (λ (l : Layout). slice_get (cells_in l (length s.rows)) slot) own.layout
    ∙ ap (λ cells. slice_get cells slot) (cells_laid unit (length s.rows))
    ∙ ap (λ n. slice_get (all_cells unit n) slot) (sym (persons_counted s))

-- A cell of a property is one of a property that the unit has.
module _ (unit : Unit) (n : ℕ) where
  there : (test : Property → Bool) → is_some_and test (slice_get unit.properties n) ≡ true → n < length unit.properties
  there test is = by (slice_get unit.properties n) refl is
    where
      by : (found : Option Property) → slice_get unit.properties n ≡ found → is_some_and test found ≡ true
          → n < length unit.properties
      by None at none = different (sym none)
      by (Some property) at some = slice_get_within unit.properties n property at

  of_run : (owner : Owner) → is_kept_by_run unit (property_cell n owner) ≡ true → n < length unit.properties
  of_run Run is = there (λ property. is_held_by_run (holder_of unit property)) is
  of_run (Person p) is = different (sym is)

  of_persons : (owner : Owner) → is_kept_for_persons unit (property_cell n owner) ≡ true → n < length unit.properties
  of_persons Run is = different (sym is)
  of_persons (Person p) is = there (λ property. is_held_by_persons (holder_of unit property)) is

  pub property_there : (persons slot : ℕ) (owner : Owner)
      → slice_get (all_cells unit persons) slot ≡ Some (property_cell n owner) → n < length unit.properties
  property_there persons slot owner at =
      elim (in_either (run_cells unit) (flat_map (person_cells unit) (numbers_below persons)) (property_cell n owner)
      (in_stands (all_cells unit persons) slot (property_cell n owner) at)) [
        | inl early ↦ of_run owner (there_is_kept unit (property_cell n owner) refl early)
        | inr late ↦ let it = from_flat_map (person_cells unit) (numbers_below persons) (property_cell n owner) late in by it.element (kept_or_member unit it.element (property_cell n owner) it.gives)
      ]
    where
      by : (p : ℕ) → (is_kept_for_persons unit (property_cell n owner) ≡ true) ⊎ IsMember unit p (property_cell n owner)
          → n < length unit.properties
      by p (inl kept) = of_persons owner kept
      by p (inr member) = absurd (omega (arith, ap sort_of member.is))

-- ---- its key

module _ (unit : Unit) (persons : Persons) (n : ℕ) (owner : Owner) (property : Property)
    (at : slice_get unit.properties n ≡ Some property) (uri : List ℕ) (named : uri_at unit.properties n ≡ Some uri) where
  pub key_is : (asked : Option (Option (List ℕ))) → asked ≡ store_person persons (is_personal property.kind) owner
      → key_of_cell unit persons (property_cell n owner) ≡ (asked >>= λ person. Some (key_at uri person))
  key_is asked is =
      ap (λ (found : Option Property). found >>= λ one. one.uri >>= λ u. store_person persons (is_personal one.kind) owner >>= λ person. Some (key_at u person)) at
      ∙ ap (λ (found : Option (List ℕ)). found >>= λ u. store_person persons (is_personal property.kind) owner >>= λ person. Some (key_at u person))
      (ap (option_and_then (λ (one : Property). one.uri)) (sym at) ∙ named)
      ∙ ap (λ (found : Option (Option (List ℕ))). found >>= λ person. Some (key_at uri person)) (sym is)

-- A person is asked for exactly where each person has a value.
pub asked_kind : (persons : Persons) (personal : Bool) (owner : Owner) (person : Option (List ℕ))
    → Some person ≡ store_person persons personal owner → is_some person ≡ personal
asked_kind persons false Run person is = ap is_some (some_same is)
asked_kind persons false (Person p) person is = none_is_some (sym is)
asked_kind persons true Run person is = none_is_some (sym is)
asked_kind persons true (Person p) person is = by (slice_get persons p.0) is
  where
    by : (found : Option PersonState) → Some person ≡ option_map (λ (one : PersonState). Some one.name) found
        → is_some person ≡ true
    by None none = none_is_some (sym none)
    by (Some one) some = ap is_some (some_same some)

-- ---- how many keys

pub count_first : (o : Option Key) (keys : List Key) → length (cons_option o keys) ≡ count_of o + length keys
count_first None keys = omega arith
count_first (Some key) keys = omega arith

-- ---- one slot after another

pub cut : (xs : List ℕ) (i d : ℕ) → i < length xs → drop i xs ≡ get_or xs i d ∷ drop (suc i) xs
cut [] i d within = absurd (omega (arith, within))
cut (x ∷ xs) zero d within = refl
cut (x ∷ xs) (suc i) d within = cut xs i d (omega (arith, within))
