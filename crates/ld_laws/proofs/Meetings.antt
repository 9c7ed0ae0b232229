-- Stores of which a run meets the same values hold the same for it.
use Rattle.std.proofs.Common.{◌≡◌, ℕ, zero, suc, List, [], ◌∷◌, ◌++◌, map, slice_get, Option, None, Some, Bool, true, false, if◌then◌else◌, refl, sym, ap, ◌∙◌, subst}
use Rattle.std.specs.Option.{option_map}
use Rattle.ld_base.specs.Maybe.{◌>>=◌, provided}
use Rattle.ld_value.specs.Datum.{Datum, same_truth}
use Rattle.ld_model.specs.Properties.{is_personal}
use Rattle.ld_model.specs.declared.cell.CellName.{CellName}
use Rattle.ld_model.specs.declared.cell.CellName.TheVariants.{Prop, Vis, Member, Chosen, Opened, ActOpened, Started, Mark, Now, Roster}
use Rattle.ld_model.specs.declared.cell.Owner.{Owner}
use Rattle.ld_model.specs.declared.cell.Owner.TheVariants.{Run, Person}
use Rattle.ld_model.specs.declared.property.Property.{Property}
use Rattle.ld_model.specs.declared.unit.Unit.{Unit}
use Rattle.ld_expr.specs.Lookup.{list_from}
use Rattle.ld_expr.specs.Owners.{is_global}
use Rattle.ld_lines.specs.declared.command.RunCommand.{RunCommand}
use Rattle.ld_roles.specs.Roster.{PersonState, Persons}
use Rattle.ld_state.specs.GlobalValues.{GlobalValues}
use Rattle.ld_state.specs.RunState.{RunState}
use Rattle.ld_sharing.specs.Globals.{store_person, store_says}
use Rattle.ld_world.specs.Isolation.{HoldTheSame, newcomer_of}
use Rattle.ld_laws.specs.Histories.{global_values, its_persons, unit_values, values_held}

-- What two functions make of lists that they map alike.
same_at : {A B : Type 0} (f g : A → B) (xs : List A) (n : ℕ) (x : A) → map f xs ≡ map g xs → slice_get xs n ≡ Some x → f x ≡ g x
same_at f g [] n x same at = cc
same_at f g (y ∷ ys) zero x same at = let is : y ≡ x = cc in subst (λ z. f z ≡ g z) is cc
same_at f g (y ∷ ys) (suc n) x same at = same_at f g ys n x (cc same) at

-- The same of the names of persons, and of further names.
module _ {B : Type 0} (f g : List ℕ → B) (more : List (List ℕ)) where
  abbrev AreToldAlike : Persons → Type 0
  AreToldAlike persons = map f (map (λ person. person.name) persons ++ more) ≡ map g (map (λ person. person.name) persons ++ more)

  of_persons : (persons : Persons) (p : ℕ) (person : PersonState) → AreToldAlike persons → slice_get persons p ≡ Some person → f person.name ≡ g person.name
  of_persons [] p person same at = cc
  of_persons (one ∷ persons) zero person same at =
      let is : one ≡ person = cc in
      subst (λ (x : PersonState). f x.name ≡ g x.name) is cc
  of_persons (one ∷ persons) (suc p) person same at = of_persons persons p person (cc same) at

  of_more : (persons : Persons) → AreToldAlike persons → map f more ≡ map g more
  of_more [] same = same
  of_more (one ∷ persons) same = of_more persons (cc same)

-- ---- one property

-- The value of one person, where the property has this uri.
abbrev own_value : Option (List ℕ) → GlobalValues → List ℕ → Option Datum
own_value uri said name = uri >>= λ u. said u (Some name)

-- The values of these persons, or the one that all share.
abbrev held_by : List (List ℕ) → Bool → Option (List ℕ) → GlobalValues → List (Option Datum)
held_by names true uri said = map (own_value uri said) names
held_by names false uri said = (uri >>= λ u. said u None) ∷ []

module _ (persons : Persons) (more : List (List ℕ)) (store other : GlobalValues) where
  abbrev names : List (List ℕ)
  names = map (λ person. person.name) persons ++ more

  -- What a store says of a cell of the property.
  abbrev said_by : Bool → Option (List ℕ) → Owner → GlobalValues → Option (Option Datum)
  said_by personal uri owner said = uri >>= λ u. store_person persons personal owner >>= λ person. Some (said u person)

  -- Where they hold the same values, they say the same.
  says_same : (personal : Bool) (uri : Option (List ℕ)) (owner : Owner) → held_by names personal uri store ≡ held_by names personal uri other
      → said_by personal uri owner store ≡ said_by personal uri owner other
  says_same personal None owner same = refl
  says_same false (Some u) Run same = cc
  says_same false (Some u) (Person q) same = refl
  says_same true (Some u) Run same = refl
  says_same true (Some u) (Person q) same = by (slice_get persons q.0) refl
    where
      by : (found : Option PersonState) → slice_get persons q.0 ≡ found
          → (option_map (λ person. Some person.name) found >>= λ person. Some (store u person)) ≡ (option_map (λ person. Some person.name) found >>= λ person. Some (other u person))
      by None at = refl
      by (Some person) at = ap Some (of_persons (own_value (Some u) store) (own_value (Some u) other) more persons q.0 person same at)

  -- They hold the same for one who joins.
  joining_same : (name : List ℕ) → more ≡ name ∷ [] → (personal : Bool) (uri : Option (List ℕ)) → held_by names personal uri store ≡ held_by names personal uri other
      → (if same_truth personal true then own_value uri store name else None) ≡ (if same_truth personal true then own_value uri other name else None)
  joining_same name is false uri same = refl
  joining_same name is true uri same =
      let alone = subst (λ (ns : List (List ℕ)). map (own_value uri store) ns ≡ map (own_value uri other) ns) is (of_more (own_value uri store) (own_value uri other) more persons same) in
      cc

-- ---- all properties of the unit

-- The run meets the same values.
module _ (unit : Unit) (s : RunState) (asked : RunCommand) (store other : GlobalValues)
    (same : unit_values unit store (its_persons s asked) ≡ unit_values unit other (its_persons s asked)) where
  abbrev joining : List (List ℕ)
  joining = list_from (λ name. name ∷ []) (newcomer_of asked)

  abbrev IsHeldAlike : Property → Type 0
  IsHeldAlike property = values_held store (its_persons s asked) property ≡ values_held other (its_persons s asked) property

  held_alike : (n : ℕ) (property : Property) → slice_get unit.properties n ≡ Some property → IsHeldAlike property
  held_alike n property at = same_at (values_held store (its_persons s asked)) (values_held other (its_persons s asked)) unit.properties n property same at

  -- What is held of a global property, told by its uri.
  told_by_uri : (said : GlobalValues) (property : Property) (personal : Bool) → is_personal property.kind ≡ personal
      → global_values said (its_persons s asked) property personal ≡ held_by (its_persons s asked) personal property.uri said
  told_by_uri said property true is = ap (λ b. map (λ name. if same_truth b true then own_value property.uri said name else None) (its_persons s asked)) is
  told_by_uri said property false is = ap (λ b. (if same_truth b false then (property.uri >>= λ u. said u None) else None) ∷ []) is

  global_alike : (property : Property) → is_global property.kind ≡ true → IsHeldAlike property
      → held_by (its_persons s asked) (is_personal property.kind) property.uri store ≡ held_by (its_persons s asked) (is_personal property.kind) property.uri other
  global_alike property global alike = sym (told store) ∙ alike ∙ told other
    where
      told : (said : GlobalValues) → values_held said (its_persons s asked) property ≡ held_by (its_persons s asked) (is_personal property.kind) property.uri said
      told said =
          ap (λ b. if b then global_values said (its_persons s asked) property (is_personal property.kind) else []) global
          ∙ told_by_uri said property (is_personal property.kind) refl

  -- What a store says of the cell of a property that has this owner.
  abbrev says_of : Property → Bool → Owner → GlobalValues → Option (Option Datum)
  says_of property global owner said =
      (provided global property >>= λ one. one.uri) >>= λ u. store_person s.persons (is_personal property.kind) owner >>= λ person. Some (said u person)

  -- The stores say the same of each cell.
  present_of : (property : Property) (global : Bool) (owner : Owner) → is_global property.kind ≡ global → IsHeldAlike property
      → says_of property global owner store ≡ says_of property global owner other
  present_of property false owner is alike = refl
  present_of property true owner is alike =
      says_same s.persons joining store other (is_personal property.kind) property.uri owner (global_alike property is alike)

  present : (cell : CellName) → store_says unit store s.persons cell ≡ store_says unit other s.persons cell
  present (Prop n owner) = by (slice_get unit.properties n.0) refl
    where
      by : (found : Option Property) → slice_get unit.properties n.0 ≡ found
          → (found >>= λ property. says_of property (is_global property.kind) owner store) ≡ (found >>= λ property. says_of property (is_global property.kind) owner other)
      by None at = refl
      by (Some property) at = present_of property (is_global property.kind) owner refl (held_alike n.0 property at)
  present (Vis n p) = refl
  present (Member r p) = refl
  present (Chosen n owner) = refl
  present (Opened n owner) = refl
  present (ActOpened n) = refl
  present Started = refl
  present (Mark r owner) = refl
  present Now = refl
  present Roster = refl

  pub hold_the_same : HoldTheSame unit s asked store other
  hold_the_same = record {
    present = present;
    joining = λ name is n property at global.
        joining_same s.persons joining store other name (ap (list_from (λ (one : List ℕ). one ∷ [])) is) (is_personal property.kind) property.uri
        (global_alike property global (held_alike n property at));
  }
