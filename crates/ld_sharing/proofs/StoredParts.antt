-- What the store holds of a unit's properties, one by one.
use Rattle.std.proofs.Common.{◌≡◌, refl, sym, ap, ◌∙◌, ℕ, ◌+◌, ◌<◌, ◌≤◌, List, length, take, slice_get, Option, None, Some, Bool, true, false, cond, is_some, arith, if◌then◌else◌, [], ◌∷◌, ◌++◌, zero, suc}
use Rattle.std.proofs.lemmas.Option.{slice_get-map, slice_get_within}
use Rattle.std.specs.Option.{option_and_then, option_map}
use Rattle.ld_base.specs.Maybe.{◌>>=◌}
use Rattle.ld_value.specs.Datum.{Datum, same_truth}
use Rattle.ld_model.specs.Properties.{is_personal}
use Rattle.ld_model.specs.declared.property.Property.{Property}
use Rattle.ld_model.specs.declared.unit.Unit.{Unit}
use Rattle.ld_expr.specs.Owners.{is_global}
use Rattle.ld_globals.specs.Store.{IsWritable, Store, key_at, value_at}
use Rattle.ld_rules.specs.PreparedView.{uri_at}
use Rattle.ld_state.specs.Beginnings.{stored_for}
use Rattle.ld_state.specs.GlobalValues.{GlobalValues}
use Rattle.ld_state.specs.RunCells.{stored_value}
use Rattle.ld_state.proofs.Elements.{none_is_some, some_same}
use Rattle.ld_sharing.specs.Fitting.{BeginsFitting, fits_if_any}
use Rattle.ld_sharing.specs.Readable.{FitsStored, IsShared, IsStoredOf}
use Rattle.ld_sharing.specs.StoreView.{values_of}
use Rattle.ld_sharing.proofs.TakingKeys.{found_there, key_fits}

-- ---- one property

abbrev part : GlobalValues → Option (List ℕ) → Property → Option Datum
part store person property = if is_global property.kind then stored_value store person property else None

-- What the store says of a property, of which it may hold nothing.
abbrev pub IsStored : Unit → GlobalValues → Option (List ℕ) → ℕ → Option Datum → Type 0
IsStored unit store person n value = IsStoredOf unit store person n value × FitsStored unit store person n

module _ (unit : Unit) (store : GlobalValues) (person : Option (List ℕ)) (n : ℕ) (property : Property)
    (at : slice_get unit.properties n ≡ Some property) where
  part_at : slice_get (stored_for store person unit.properties) n ≡ Some (part store person property)
  part_at = slice_get-map (part store person) unit.properties n ∙ ap (option_map (part store person)) at

  -- The store holds no value for the person.
  pub nothing_stored : stored_value store person property ≡ None
      → IsStored unit store person n None
  nothing_stored none = (
    part_at ∙ ap Some (by (is_global property.kind)),
    λ one there global.
        ap (λ (p : Property). fits_if_any p (stored_value store person p)) (some_same (sym there ∙ at))
        ∙ ap (fits_if_any property) none,
  )
    where
      by : (b : Bool) → cond b (stored_value store person property) None ≡ None
      by true = none
      by false = refl

  pub other_owner_stored : same_truth (is_personal property.kind) (is_some person) ≡ false
      → IsStored unit store person n None
  other_owner_stored other =
      nothing_stored (ap (λ b. cond b (property.uri >>= λ uri. store uri person) None) other)

-- A property without a uri.
pub no_uri_stored : (unit : Unit) (store : GlobalValues) (person : Option (List ℕ)) (n : ℕ) → n < length unit.properties
    → uri_at unit.properties n ≡ None → IsStored unit store person n None
no_uri_stored unit store person n within unnamed =
    nothing_stored unit store person n property at (by (same_truth (is_personal property.kind) (is_some person)))
  where
    property : Property
    property = (found_there unit.properties n within).0

    at : slice_get unit.properties n ≡ Some property
    at = (found_there unit.properties n within).1

    by : (b : Bool) → cond b (property.uri >>= λ uri. store uri person) None ≡ None
    by true =
        ap (λ (found : Option (List ℕ)). found >>= λ uri. store uri person)
        (ap (option_and_then (λ (one : Property). one.uri)) (sym at) ∙ unnamed)
    by false = refl

-- The value of a key that the store shares.
pub shared_stored : (unit : Unit) (store : Store) (person : Option (List ℕ)) (n : ℕ) (uri : List ℕ)
    → (shared : IsShared unit store n uri (is_some person)) → (value : Option Datum)
    → value ≡ value_at store (key_at uri person) → IsWritable store (key_at uri person) value
    → IsStored unit (values_of store) person n value
shared_stored unit store person n uri shared value is writable = (
  part_at unit (values_of store) person n shared.property shared.at
      ∙ ap (λ b. Some (cond b (stored_value (values_of store) person shared.property) None)) shared.global
      ∙ ap Some stored,
  λ one there global.
      ap (λ (p : Property). fits_if_any p (stored_value (values_of store) person p)) (some_same (sym there ∙ shared.at))
      ∙ ap (fits_if_any shared.property) stored
      ∙ key_fits unit store n uri (is_some person) shared person value writable,
)
  where
    itself : (b : Bool) → same_truth b b ≡ true
    itself true = refl
    itself false = refl

    stored : stored_value (values_of store) person shared.property ≡ value
    stored =
        ap (λ b. cond (same_truth b (is_some person)) (shared.property.uri >>= λ u. values_of store u person) None) shared.personal_is
        ∙ ap (λ b. cond b (shared.property.uri >>= λ u. values_of store u person) None) (itself (is_some person))
        ∙ ap (λ (found : Option (List ℕ)). found >>= λ u. values_of store u person) shared.named
        ∙ sym is

-- ---- all properties

take_more : {A : Type 0} → (xs : List A) (n : ℕ) (x : A) → slice_get xs n ≡ Some x → take (n + 1) xs ≡ take n xs ++ x ∷ []
take_more [] n x at = none_is_some at
take_more (y ∷ ys) zero x at = ap (λ z. z ∷ []) (some_same at)
take_more (y ∷ ys) (suc n) x at =
    let next : suc n + 1 ≡ suc (n + 1) = omega arith in
    ap (λ m. take m (y ∷ ys)) next ∙ ap (λ zs. y ∷ zs) (take_more ys n x at)

-- One value more.
pub one_stored : (unit : Unit) (store : GlobalValues) (person : Option (List ℕ)) (n : ℕ) (values : List (Option Datum)) (value : Option Datum)
    → values ≡ take n (stored_for store person unit.properties) → IsStoredOf unit store person n value
    → values ++ value ∷ [] ≡ take (n + 1) (stored_for store person unit.properties)
one_stored unit store person n values value before is =
    ap (λ front. front ++ value ∷ []) before ∙ sym (take_more (stored_for store person unit.properties) n value is)

-- What the store holds of the first `count` properties fits.
abbrev pub FitsBefore : Unit → GlobalValues → Option (List ℕ) → ℕ → Type 0
FitsBefore unit store person count = (n : ℕ) → n < count → FitsStored unit store person n

pub all_fit : (unit : Unit) (store : GlobalValues) (person : Option (List ℕ)) (count : ℕ)
    → length unit.properties ≤ count → FitsBefore unit store person count → BeginsFitting unit store person
all_fit unit store person count far fit n property at global =
    fit n (omega (arith, far, slice_get_within unit.properties n property at)) property at global
