-- Which units a store serves once the uris of a unit's properties are declared in it.
use Rattle.std.proofs.Common.{◌≡◌, ℕ, zero, suc, List, [], ◌∷◌, ◌++◌, filter_map, slice_get, Option, None, Some, true, false, IsTrue, refl, sym, ap, ◌∙◌, subst}
use Rattle.std.proofs.lemmas.Cmp.{nat_list_eq_equiv}
use Rattle.std.proofs.lemmas.Slice.Eq.{bytes_eq-Decides}
use Rattle.std.specs.List.{AllByRecursion, IsDistinct, cons_option}
use Rattle.std.specs.Map.{keys_of}
use Rattle.std.specs.Option.{option_or}
use Rattle.std.specs.Str.{bytes_eq}
use Rattle.ld_base.specs.Roomy.{Roomy}
use Rattle.ld_model.specs.Properties.{initial_of}
use Rattle.ld_model.specs.declared.property.Property.{Property}
use Rattle.ld_model.specs.declared.unit.Unit.{Unit}
use Rattle.ld_value.specs.Datum.{Datum}
use Rattle.ld_globals.specs.Declarations.{Declaration, fits_declared}
use Rattle.ld_globals.specs.Kept.{IsWhole, pairs_of}
use Rattle.ld_globals.specs.Store.{Agrees, KeepsWrites, Store, declare_in, declared_at, declared_in}
use Rattle.ld_globals.specs.declared.declared.Declared.{Declared}
use Rattle.ld_sharing.specs.Current.{IsCurrentAsOf}
use Rattle.ld_sharing.specs.StoreView.{IsDeclared, Serves, declaration_by}
use Rattle.ld_refs.specs.Checks.{IsValid}
use Rattle.ld_sharing.proofs.Currents.{stays_current}
use Rattle.ld_sharing.proofs.InitialsFit.{initials_fit}
use Rattle.ld_sharing.proofs.UrisDiffer.{uris_distinct}
use Rattle.ld_run.specs.RunView.{RunView}
use Rattle.ld_state.specs.StateView.{run_of}
use Rattle.ld_world.specs.WorldView.{AreCurrent, IsStoreOf, ServesAll, ServesRuns}
use Rattle.ld_world.specs.Declaring.{pairs_by, pairs_with}
use Rattle.ld_world.proofs.Declared.{with_all}

abbrev Pairs : Type 0
Pairs = List (List ℕ × Declaration)

-- Each element that has the one has the other.
all_mean : {A : Type 0} (P Q : A → Type 0) → ((x : A) → P x → Q x) → (xs : List A) → AllByRecursion P xs → AllByRecursion Q xs
all_mean P Q means [] all = tt
all_mean P Q means (x ∷ xs) all = (means x all.0, all_mean P Q means xs all.1)

all_meet : {A : Type 0} (P Q R : A → Type 0) → ((x : A) → P x → Q x → R x) → (xs : List A) → AllByRecursion P xs → AllByRecursion Q xs → AllByRecursion R xs
all_meet P Q R meet [] first second = tt
all_meet P Q R meet (x ∷ xs) first second = (meet x first.0 second.0, all_meet P Q R meet xs first.1 second.1)

-- ---- the uris of a unit's properties

keys_by : (properties : List Property) → keys_of (pairs_by properties) ≡ filter_map (λ property. property.uri) properties
keys_by [] = refl
keys_by (property ∷ properties) = by property.uri (keys_by properties)
  where
    by : (own : Option (List ℕ)) → keys_of (pairs_by properties) ≡ filter_map (λ other. other.uri) properties
        → keys_of (pairs_with own (declaration_by property) ++ pairs_by properties)
        ≡ cons_option own (filter_map (λ other. other.uri) properties)
    by None rest = rest
    by (Some uri) rest = ap (λ uris. uri ∷ uris) rest

pub distinct_by : (unit : Unit) → IsValid unit → IsDistinct bytes_eq (keys_of (pairs_by unit.properties))
distinct_by unit valid = subst (IsDistinct bytes_eq) (sym (keys_by unit.properties)) (uris_distinct unit valid)

-- ---- the unit itself

-- A pair before others that have other uris.
past : (e : List ℕ × Declaration) (es rest : Pairs) → AllByRecursion (λ y. bytes_eq e.0 y ≡ false) (keys_of rest)
    → AllByRecursion (λ f. declared_in es f.0 ≡ Some f.1) rest → AllByRecursion (λ f. declared_in (e ∷ es) f.0 ≡ Some f.1) rest
past e es [] others all = tt
past e es (f ∷ rest) others all =
    (rw (nat_list_eq_equiv.symm f.0 e.0, others.0) all.0, past e es rest others.1 all.1)

own_found : (pairs : Pairs) → IsDistinct bytes_eq (keys_of pairs) → AllByRecursion (λ e. declared_in pairs e.0 ≡ Some e.1) pairs
unfolding IsDistinct
own_found [] distinct = tt
own_found (e ∷ pairs) distinct =
    (rw ((bytes_eq-Decides e.0 e.0).1 refl) refl, past e pairs pairs distinct.0 (own_found pairs distinct.1))

-- Pairs that differ in their uris and agree with what was declared are declared.
declares_own : (store : Store) (pairs : Pairs) → IsDistinct bytes_eq (keys_of pairs) → AllByRecursion (Agrees store) pairs
    → AllByRecursion (λ e. declared_at (declare_in store pairs) e.0 ≡ Some e.1) pairs
declares_own store pairs distinct agree =
    all_meet (Agrees store) (λ e. declared_in pairs e.0 ≡ Some e.1) (λ e. declared_at (declare_in store pairs) e.0 ≡ Some e.1) each pairs agree (own_found pairs distinct)
  where
    by : (e : List ℕ × Declaration) (before : Option Declaration) → declared_at store e.0 ≡ before → Agrees store e → declared_in pairs e.0 ≡ Some e.1
        → option_or before (declared_in pairs e.0) ≡ Some e.1
    by e None at agrees own = own
    by e (Some d) at agrees own = ap Some (agrees d at)

    each : (e : List ℕ × Declaration) → Agrees store e → declared_in pairs e.0 ≡ Some e.1 → declared_at (declare_in store pairs) e.0 ≡ Some e.1
    each e agrees own = with_all e.0 pairs store.declared ∙ by e (declared_at store e.0) refl agrees own

-- Where each pair is declared, the store declares each property.
each_declared : (store : Store) (properties : List Property) → AllByRecursion (λ e. declared_at store e.0 ≡ Some e.1) (pairs_by properties)
    → AllByRecursion (IsDeclared store) properties
each_declared store [] all = tt
each_declared store (property ∷ properties) all = by property.uri refl all (each_declared store properties)
  where
    by : (own : Option (List ℕ)) → property.uri ≡ own
        → AllByRecursion (λ e. declared_at store e.0 ≡ Some e.1) (pairs_with own (declaration_by property) ++ pairs_by properties)
        → (AllByRecursion (λ e. declared_at store e.0 ≡ Some e.1) (pairs_by properties) → AllByRecursion (IsDeclared store) properties)
        → IsDeclared store property × AllByRecursion (IsDeclared store) properties
    by None at all rest = (λ uri is. let none : None ≡ Some uri = sym at ∙ is in cc, rest all)
    by (Some other) at all rest = (
      λ uri is. let both : Some other ≡ Some uri = sym at ∙ is in
          let same : other ≡ uri = cc in
          subst (λ u. declared_at store u ≡ Some (declaration_by property)) same all.0,
      rest all.1,
    )

pub serves_own : (store : Store) (unit : Unit) → IsDistinct bytes_eq (keys_of (pairs_by unit.properties)) → AllByRecursion (Agrees store) (pairs_by unit.properties)
    → Serves (declare_in store (pairs_by unit.properties)) unit
serves_own store unit distinct agree =
    each_declared (declare_in store (pairs_by unit.properties)) unit.properties (declares_own store (pairs_by unit.properties) distinct agree)

-- ---- the units before

still_declared : (store : Store) (pairs : Pairs) (property : Property) → IsDeclared store property → IsDeclared (declare_in store pairs) property
still_declared store pairs property is uri has =
    with_all uri pairs store.declared ∙ ap (λ o. option_or o (declared_in pairs uri)) (is uri has)

pub still_serves : (store : Store) (pairs : Pairs) (unit : Unit) → Serves store unit → Serves (declare_in store pairs) unit
still_serves store pairs unit serves = all_mean (IsDeclared store) (IsDeclared (declare_in store pairs)) (still_declared store pairs) unit.properties serves

pub still_serves_all : (store : Store) (pairs : Pairs) (units : List Unit) → ServesAll store units → ServesAll (declare_in store pairs) units
still_serves_all store pairs units serves = all_mean (Serves store) (Serves (declare_in store pairs)) (still_serves store pairs) units serves

-- ---- initial values

-- The initial value of the pair's declaration fits it.
abbrev HasFitting : List ℕ × Declaration → Type 0
HasFitting e = IsTrue (fits_declared e.1 e.1.initial)

abbrev FitsAtFirst : Property → Type 0
FitsAtFirst property = (value : Datum) → initial_of property ≡ Some value → fits_declared (declaration_by property) (Some value) ≡ true

one_fits : (property : Property) → FitsAtFirst property → IsTrue (fits_declared (declaration_by property) (initial_of property))
one_fits property fits = by (initial_of property) refl
  where
    by : (initial : Option Datum) → initial_of property ≡ initial → fits_declared (declaration_by property) initial ≡ true
    by None is = refl
    by (Some value) is = fits value is

pairs_fit : (properties : List Property) → ((n : ℕ) (property : Property) → slice_get properties n ≡ Some property → FitsAtFirst property)
    → AllByRecursion HasFitting (pairs_by properties)
pairs_fit [] fits = tt
pairs_fit (property ∷ properties) fits = by property.uri (one_fits property (fits zero property refl)) (pairs_fit properties (λ n. fits (suc n)))
  where
    by : (own : Option (List ℕ)) → IsTrue (fits_declared (declaration_by property) (initial_of property)) → AllByRecursion HasFitting (pairs_by properties)
        → AllByRecursion HasFitting (pairs_with own (declaration_by property) ++ pairs_by properties)
    by None first rest = rest
    by (Some uri) first rest = (first, rest)

whole_by : (list : List (Roomy × Declared)) → AllByRecursion HasFitting (pairs_of list) → AllByRecursion IsWhole list
whole_by [] all = tt
whole_by (e ∷ list) all = (all.0, whole_by list all.1)

-- A list that declares the properties of a valid unit is whole.
pub all_whole : (list : List (Roomy × Declared)) (unit : Unit) → pairs_of list ≡ pairs_by unit.properties → IsValid unit → AllByRecursion IsWhole list
all_whole list unit same valid =
    whole_by list (subst (AllByRecursion HasFitting) (sym same) (pairs_fit unit.properties (initials_fit unit valid)))

-- ---- stores that declare the same

-- Which units are served is told by what is declared.
pub serves_alike : (old new : Store) (units : List Unit) → new.declared ≡ old.declared → ServesAll old units → ServesAll new units
serves_alike old new units same serves =
    subst (λ declared. AllByRecursion (λ (unit : Unit). AllByRecursion (λ property. (uri : List ℕ) → property.uri ≡ Some uri → declared_in declared uri ≡ Some (declaration_by property)) unit.properties) units) (sym same) serves

pub runs_alike : (old new : Store) (runs : List (List ℕ × RunView)) → new.declared ≡ old.declared → ServesRuns old runs → ServesRuns new runs
runs_alike old new runs same serves =
    subst (λ declared. AllByRecursion (λ (entry : List ℕ × RunView). AllByRecursion (λ property. (uri : List ℕ) → property.uri ≡ Some uri → declared_in declared uri ≡ Some (declaration_by property)) entry.1.unit.properties) runs) (sym same) serves

pub still_serves_runs : (store : Store) (pairs : Pairs) (runs : List (List ℕ × RunView)) → ServesRuns store runs → ServesRuns (declare_in store pairs) runs
still_serves_runs store pairs runs serves =
    all_mean (λ (entry : List ℕ × RunView). Serves store entry.1.unit) (λ entry. Serves (declare_in store pairs) entry.1.unit) (λ entry. still_serves store pairs entry.1.unit) runs serves

pub store_alike : (old new : Store) (units : List Unit) → new.declared ≡ old.declared → IsStoreOf units old → IsStoreOf units new
store_alike old new units same is_of = λ uri. ap (λ declared. declared_in declared uri) same ∙ is_of uri

-- ---- runs while others write

-- Runs that are current stay so.
pub all_stay_current : (old new : Store) (runs : List (List ℕ × RunView)) → KeepsWrites old new → ServesRuns old runs
    → AreCurrent old runs → AreCurrent new runs
all_stay_current old new runs kept serves current =
    all_meet (λ (entry : List ℕ × RunView). Serves old entry.1.unit)
    (λ (entry : List ℕ × RunView). IsCurrentAsOf entry.1.unit (run_of entry.1.state) entry.1.stamp old)
    (λ (entry : List ℕ × RunView). IsCurrentAsOf entry.1.unit (run_of entry.1.state) entry.1.stamp new)
    (λ entry own was. stays_current entry.1.unit (run_of entry.1.state) entry.1.stamp old new own kept was) runs serves current
