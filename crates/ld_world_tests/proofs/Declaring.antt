-- A store that declares the uri of a unit's only property, which begins without a value.
use Rattle.std.proofs.Common.{◌≡◌, ℕ, List, [], ◌∷◌, ◌++◌, Option, None, Some, IsTrue, refl, sym, ap, ◌∙◌, subst}
use Rattle.std.proofs.lemmas.Slice.Eq.{bytes_eq-Decides}
use Rattle.std.specs.List.{AllByRecursion, IsDistinct, fold}
use Rattle.std.specs.Map.{keys_of}
use Rattle.std.specs.Str.{bytes_eq}
use Rattle.ld_base.specs.Maybe.{◌>>=◌}
use Rattle.ld_base.specs.Roomy.{Roomy}
use Rattle.ld_model.specs.Properties.{initial_of}
use Rattle.ld_model.specs.declared.property.Property.{Property}
use Rattle.ld_model.specs.declared.unit.Unit.{Unit}
use Rattle.ld_globals.specs.Declarations.{Declaration, fits_declared}
use Rattle.ld_globals.specs.Kept.{IsWhole, pairs_of}
use Rattle.ld_globals.specs.Store.{Store, declare_in, declared_in, with_declared}
use Rattle.ld_globals.specs.declared.declared.Declared.{Declared}
use Rattle.ld_sharing.specs.StoreView.{IsDeclared, Serves, declaration_by}
use Rattle.ld_value.specs.Values.{value_of}
use Rattle.ld_world.specs.Declaring.{pairs_by, pairs_with}

abbrev pub of_one : Property → List (List ℕ × Declaration)
of_one property = pairs_by (property ∷ [])

pub distinct_one : (property : Property) → IsDistinct bytes_eq (keys_of (of_one property))
unfolding IsDistinct
distinct_one property = by property.uri
  where
    by : (own : Option (List ℕ)) → IsDistinct bytes_eq (keys_of (pairs_with own (declaration_by property) ++ []))
    by None = tt
    by (Some uri) = (tt, tt)

abbrev HasFitting : List ℕ × Declaration → Type 0
HasFitting e = IsTrue (fits_declared e.1 e.1.initial)

whole_by : (list : List (Roomy × Declared)) → AllByRecursion HasFitting (pairs_of list) → AllByRecursion IsWhole list
whole_by [] all = tt
whole_by (e ∷ list) all = (all.0, whole_by list all.1)

fits_one : (property : Property) → property.initial ≡ None → AllByRecursion HasFitting (of_one property)
fits_one property none = by property.uri
  where
    fits : IsTrue (fits_declared (declaration_by property) (initial_of property))
    fits = subst (λ initial. IsTrue (fits_declared (declaration_by property) initial))
        (sym (ap (λ text. text >>= value_of property.datatype) none)) refl

    by : (own : Option (List ℕ)) → AllByRecursion HasFitting (pairs_with own (declaration_by property) ++ [])
    by None = tt
    by (Some uri) = (fits, tt)

pub whole_one : (list : List (Roomy × Declared)) (property : Property) → pairs_of list ≡ of_one property → property.initial ≡ None
    → AllByRecursion IsWhole list
whole_one list property same none = whole_by list (subst (AllByRecursion HasFitting) (sym same) (fits_one property none))

declared_one : (property : Property) → fold with_declared [] (of_one property) ≡ of_one property
declared_one property = by property.uri
  where
    by : (own : Option (List ℕ)) → fold with_declared [] (pairs_with own (declaration_by property) ++ []) ≡ pairs_with own (declaration_by property) ++ []
    by None = refl
    by (Some uri) = refl

pub serves_one : (old new : Store) (unit : Unit) (property : Property) → unit.properties ≡ property ∷ [] → old.declared ≡ []
    → new ≡ declare_in old (of_one property) → Serves new unit
serves_one old new unit property are empty made = subst (AllByRecursion (IsDeclared new)) (sym are) (one, tt)
  where
    declared : new.declared ≡ of_one property
    declared =
        ap (λ store. store.declared) made ∙ ap (λ before. fold with_declared before (of_one property)) empty ∙ declared_one property

    one : IsDeclared new property
    one uri is =
        ap (λ pairs. declared_in pairs uri) declared
        ∙ ap (λ own. declared_in (pairs_with own (declaration_by property) ++ []) uri) is
        ∙ rw ((bytes_eq-Decides uri uri).1 refl) refl

-- Which units are served is told by what is declared.
pub serves_alike : (old new : Store) (unit : Unit) → new.declared ≡ old.declared → Serves old unit → Serves new unit
serves_alike old new unit same serves =
    subst (λ declared. AllByRecursion (λ property. (uri : List ℕ) → property.uri ≡ Some uri → declared_in declared uri ≡ Some (declaration_by property)) unit.properties)
    (sym same) serves
