-- The first property of a unit that an earlier unit declares with other contents.
use Rattle.std.proofs.Common.{◌≡◌, ℕ, zero, suc, ◌+◌, ◌-◌, List, [], ◌∷◌, ◌++◌, Option, None, Some, is_some, option_map, Bool, true, false, not, nat_eq, if◌then◌else◌, refl, sym, ap, ◌∙◌, subst, arith}
use Rattle.std.specs.List.{AllByRecursion}
use Rattle.ld_base.specs.Maybe.{◌>>=◌}
use Rattle.ld_model.specs.declared.property.Property.{Property}
use Rattle.ld_model.specs.declared.unit.Unit.{Unit}
use Rattle.ld_globals.specs.Store.{Agrees, Differs, IsFirstToDiffer, Store, declared_at}
use Rattle.ld_expr.specs.Lookup.{is_some_and}
use Rattle.ld_sharing.specs.StoreView.{declaration_by}
use Rattle.ld_state.specs.GlobalValues.{declared_by}
use Rattle.ld_world.specs.Published.{differing, differs_at, same_declaration}
use Rattle.ld_world.specs.Declaring.{uri_property_number, pairs_by, pairs_with}
use Rattle.ld_world.proofs.Alike.{alike}

module _ (units : List Unit) (store : Store)
    (declares : (uri : List ℕ) → declared_at store uri ≡ option_map declaration_by (declared_by units uri)) where
  -- A pair that agrees with the store agrees with the units, and one that differs differs from them.
  agrees_so : (property : Property) (uri : List ℕ) → Agrees store (uri, declaration_by property)
      → is_some_and (λ other. not (same_declaration other property)) (declared_by units uri) ≡ false
  agrees_so property uri agrees = by (declared_by units uri) refl
    where
      by : (found : Option Property) → declared_by units uri ≡ found → is_some_and (λ other. not (same_declaration other property)) found ≡ false
      by None at = refl
      by (Some other) at =
          let same = agrees (declaration_by other) (declares uri ∙ ap (option_map declaration_by) at) in
          ap not ((alike other property).1 same)

  differs_so : (property : Property) (uri : List ℕ) → Differs store (uri, declaration_by property)
      → is_some_and (λ other. not (same_declaration other property)) (declared_by units uri) ≡ true
  differs_so property uri differs = by (declared_by units uri) refl
    where
      told : (other : Property) (same : Bool) → same_declaration other property ≡ same → declaration_by other ≡ differs.0 → not same ≡ true
      told other true same is = absurd (differs.2 (sym is ∙ (alike other property).0 same))
      told other false same is = refl

      by : (found : Option Property) → declared_by units uri ≡ found → is_some_and (λ other. not (same_declaration other property)) found ≡ true
      by None at =
          let none : None ≡ Some differs.0 = sym (declares uri ∙ ap (option_map declaration_by) at) ∙ differs.1 in
          cc
      by (Some other) at =
          let both : Some (declaration_by other) ≡ Some differs.0 = sym (declares uri ∙ ap (option_map declaration_by) at) ∙ differs.1 in
          told other (same_declaration other property) refl cc

  -- Where all agree, none is declared otherwise.
  pub none_differs : (n : ℕ) (properties : List Property) → AllByRecursion (Agrees store) (pairs_by properties) → differing units n properties ≡ []
  none_differs n [] agree = refl
  none_differs n (property ∷ properties) agree = by property.uri agree (none_differs (n + 1) properties)
    where
      by : (own : Option (List ℕ)) → AllByRecursion (Agrees store) (pairs_with own (declaration_by property) ++ pairs_by properties)
          → (AllByRecursion (Agrees store) (pairs_by properties) → differing units (n + 1) properties ≡ [])
          → (if is_some_and (λ other. not (same_declaration other property)) (own >>= declared_by units) then differs_at n ∷ [] else differing units (n + 1) properties) ≡ []
      by None agree rest = rest agree
      by (Some uri) agree rest = rw (agrees_so property uri agree.0) (rest agree.1)

  -- The first pair that differs is of the first property that is declared otherwise.
  pub first_differs : (n place : ℕ) (properties : List Property) → IsFirstToDiffer store (pairs_by properties) place
      → differing units n properties ≡ differs_at (uri_property_number n place properties) ∷ []
  first_differs n place [] first = let none : None ≡ Some first.pair = first.there in cc
  first_differs n place (property ∷ properties) first = by property.uri place first (λ k. first_differs (n + 1) k properties)
    where
      by : (own : Option (List ℕ)) (place : ℕ) → IsFirstToDiffer store (pairs_with own (declaration_by property) ++ pairs_by properties) place
          → ((k : ℕ) → IsFirstToDiffer store (pairs_by properties) k → differing units (n + 1) properties ≡ differs_at (uri_property_number (n + 1) k properties) ∷ [])
          → (if is_some_and (λ other. not (same_declaration other property)) (own >>= declared_by units) then differs_at n ∷ [] else differing units (n + 1) properties)
          ≡ differs_at (if is_some own then (if nat_eq place 0 then n else uri_property_number (n + 1) (place - 1) properties) else uri_property_number (n + 1) place properties) ∷ []
      by None place first rest = rest place first
      by (Some uri) zero first rest =
          let same : (uri, declaration_by property) ≡ first.pair = cc in
          rw (differs_so property uri (subst (Differs store) (sym same) first.differs)) refl
      by (Some uri) (suc place) first rest =
          let more : nat_eq (suc place) 0 ≡ false = grind arith in
          let less : suc place - 1 ≡ place = omega arith in
          rw (agrees_so property uri first.before.0, more, less) (rest place (record { pair = first.pair; there = first.there; differs = first.differs; before = first.before.1 }))
