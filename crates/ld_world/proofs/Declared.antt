-- What a store declares once the uris of a unit's properties are declared in it.
use Rattle.std.proofs.Common.{◌≡◌, ℕ, List, [], ◌∷◌, ◌++◌, flat_map, Option, None, Some, is_some, option_map, Bool, true, false, cond, if◌then◌else◌, refl, sym, ap, ◌∙◌, true≢false, append-nil}
use Rattle.std.proofs.lemmas.Grind.{flat_map-append}
use Rattle.std.proofs.lemmas.List.Folds.{find-append}
use Rattle.std.proofs.lemmas.Slice.Eq.{bytes_eq-Decides}
use Rattle.std.specs.List.{fold}
use Rattle.std.specs.Option.{option_or}
use Rattle.std.specs.Str.{bytes_eq}
use Rattle.ld_base.specs.Maybe.{◌>>=◌}
use Rattle.ld_model.specs.Properties.{initial_of}
use Rattle.ld_model.specs.declared.property.Property.{Property}
use Rattle.ld_model.specs.declared.unit.Unit.{Unit}
use Rattle.ld_globals.specs.Declarations.{Declaration}
use Rattle.ld_globals.specs.Store.{Store, Write, declare_in, declared_at, declared_in, key_at, last_write, value_after, with_declared}
use Rattle.ld_expr.specs.Lookup.{is_some_and}
use Rattle.ld_sharing.specs.StoreView.{declaration_by, values_of}
use Rattle.ld_state.specs.GlobalValues.{declared_by, first_values, property_with}
use Rattle.ld_world.specs.Declaring.{pairs_by, pairs_with}

abbrev Pairs : Type 0
Pairs = List (List ℕ × Declaration)

-- ---- look-ups

found_behind : (uri : List ℕ) (first more : Pairs) → declared_in (first ++ more) uri ≡ option_or (declared_in first uri) (declared_in more uri)
found_behind uri [] more = refl
found_behind uri (p ∷ first) more = by (bytes_eq uri p.0) (found_behind uri first more)
  where
    by : (b : Bool) → declared_in (first ++ more) uri ≡ option_or (declared_in first uri) (declared_in more uri)
        → cond b (Some p.1) (declared_in (first ++ more) uri) ≡ option_or (cond b (Some p.1) (declared_in first uri)) (declared_in more uri)
    by true rest = refl
    by false rest = rest

-- A uri that is declared already stays as it is.
with_one : (uri : List ℕ) (declared : Pairs) (p : List ℕ × Declaration)
    → declared_in (with_declared declared p) uri ≡ option_or (declared_in declared uri) (declared_in (p ∷ []) uri)
with_one uri declared p = by (is_some (declared_in declared p.0)) refl (bytes_eq uri p.0) refl (declared_in declared uri) refl
  where
    by : (there : Bool) → is_some (declared_in declared p.0) ≡ there → (same : Bool) → bytes_eq uri p.0 ≡ same
        → (found : Option Declaration) → declared_in declared uri ≡ found
        → declared_in (if there then declared else declared ++ p ∷ []) uri ≡ option_or found (cond same (Some p.1) None)
    by true there same is (Some d) found = found
    by true there false is None found = found
    by true there true is None found =
        let one : uri ≡ p.0 = (bytes_eq-Decides uri p.0).0 is in
        absurd (true≢false (sym there ∙ ap (λ u. is_some (declared_in declared u)) (sym one) ∙ ap is_some found))
    by false there same is d found = found_behind uri declared (p ∷ []) ∙ ap (λ o. option_or o (declared_in (p ∷ []) uri)) found ∙ ap (λ b. option_or d (cond b (Some p.1) None)) is

pub with_all : (uri : List ℕ) (pairs declared : Pairs)
    → declared_in (fold with_declared declared pairs) uri ≡ option_or (declared_in declared uri) (declared_in pairs uri)
with_all uri [] declared = by (declared_in declared uri)
  where
    by : (found : Option Declaration) → found ≡ option_or found None
    by None = refl
    by (Some d) = refl
with_all uri (p ∷ pairs) declared =
    with_all uri pairs (with_declared declared p) ∙ ap (λ o. option_or o (declared_in pairs uri)) (with_one uri declared p) ∙ by (declared_in declared uri) (bytes_eq uri p.0)
  where
    by : (found : Option Declaration) (same : Bool)
        → option_or (option_or found (cond same (Some p.1) None)) (declared_in pairs uri) ≡ option_or found (cond same (Some p.1) (declared_in pairs uri))
    by None true = refl
    by None false = refl
    by (Some d) same = refl

-- The first property that has the uri says how it is declared.
pairs_found : (uri : List ℕ) (properties : List Property) → declared_in (pairs_by properties) uri ≡ option_map declaration_by (property_with uri properties)
pairs_found uri [] = refl
pairs_found uri (property ∷ properties) = by property.uri (pairs_found uri properties)
  where
    inner : (same : Bool) → declared_in (pairs_by properties) uri ≡ option_map declaration_by (property_with uri properties)
        → cond same (Some (declaration_by property)) (declared_in (pairs_by properties) uri) ≡ option_map declaration_by (cond same (Some property) (property_with uri properties))
    inner true rest = refl
    inner false rest = rest

    by : (own : Option (List ℕ)) → declared_in (pairs_by properties) uri ≡ option_map declaration_by (property_with uri properties)
        → declared_in (pairs_with own (declaration_by property) ++ pairs_by properties) uri
        ≡ option_map declaration_by (cond (is_some_and (bytes_eq uri) own) (Some property) (property_with uri properties))
    by None rest = rest
    by (Some other) rest = inner (bytes_eq uri other) rest

-- What all units declare, once there is one more.
one_more : (units : List Unit) (unit : Unit) (uri : List ℕ)
    → declared_by (units ++ unit ∷ []) uri ≡ option_or (declared_by units uri) (property_with uri unit.properties)
one_more units unit uri =
    let behind : flat_map (λ other. other.properties) (units ++ unit ∷ []) ≡ flat_map (λ other. other.properties) units ++ unit.properties =
    flat_map-append (λ other. other.properties) units (unit ∷ []) ∙ ap (λ last. flat_map (λ other. other.properties) units ++ last) (append-nil unit.properties) in
    ap (property_with uri) behind ∙ find-append (λ property. is_some_and (bytes_eq uri) property.uri) (flat_map (λ other. other.properties) units) unit.properties

mapped_or : {A B : Type 0} (f : A → B) (first second : Option A) → option_or (option_map f first) (option_map f second) ≡ option_map f (option_or first second)
mapped_or f None second = refl
mapped_or f (Some x) second = refl

-- ---- the store once a unit is published

module _ (units : List Unit) (store : Store) (unit : Unit)
    (declares : (uri : List ℕ) → declared_at store uri ≡ option_map declaration_by (declared_by units uri)) where
  abbrev after : Store
  after = declare_in store (pairs_by unit.properties)

  -- It declares what all units declare.
  pub declares_more : (uri : List ℕ) → declared_at after uri ≡ option_map declaration_by (declared_by (units ++ unit ∷ []) uri)
  declares_more uri =
      with_all uri (pairs_by unit.properties) store.declared
      ∙ ap (λ o. option_or o (declared_in (pairs_by unit.properties) uri)) (declares uri)
      ∙ ap (option_or (option_map declaration_by (declared_by units uri))) (pairs_found uri unit.properties)
      ∙ mapped_or declaration_by (declared_by units uri) (property_with uri unit.properties)
      ∙ ap (option_map declaration_by) (sym (one_more units unit uri))

  initially : (found : Option Property) → value_after (option_map declaration_by found) None ≡ (found >>= initial_of)
  initially None = refl
  initially (Some property) = refl

  -- Where each key has its first value, it has its first value of all units: what is written is of a uri that
  -- was declared before.
  module _ (unwritten : (uri : List ℕ) (person : Option (List ℕ)) → declared_at store uri ≡ None → last_write store (key_at uri person) ≡ None)
      (first : values_of store ≡ first_values units) where
    value_more : (uri : List ℕ) (person : Option (List ℕ)) → values_of after uri person ≡ first_values (units ++ unit ∷ []) uri person
    value_more uri person =
        ap (λ d. value_after d (last_write store (key_at uri person))) (declares_more uri ∙ ap (option_map declaration_by) (one_more units unit uri))
        ∙ by (last_write store (key_at uri person)) refl (declared_by units uri) refl
        ∙ sym (ap (λ o. o >>= initial_of) (one_more units unit uri))
      where
        by : (written : Option Write) → last_write store (key_at uri person) ≡ written → (found : Option Property) → declared_by units uri ≡ found
            → value_after (option_map declaration_by (option_or found (property_with uri unit.properties))) written
            ≡ (option_or found (property_with uri unit.properties) >>= initial_of)
        by None at found declared = initially (option_or found (property_with uri unit.properties))
        by (Some write) at None declared =
            let none : None ≡ Some write = sym (unwritten uri person (declares uri ∙ ap (option_map declaration_by) declared)) ∙ at in
            cc
        by (Some write) at (Some property) declared =
            let was : value_after (declared_at store uri) (last_write store (key_at uri person)) ≡ (declared_by units uri >>= initial_of) = λ i. first i uri person in
            sym (ap (value_after (declared_at store uri)) at) ∙ was ∙ ap (λ o. o >>= initial_of) declared

    pub values_more : values_of after ≡ first_values (units ++ unit ∷ [])
    values_more = λ i uri person. value_more uri person i
