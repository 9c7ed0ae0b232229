-- Walking over the properties of a unit.
use Rattle.std.proofs.Common.{◌≡◌, ◌≢◌, ℕ, zero, suc, ◌+◌, ◌-◌, ◌<◌, List, [], ◌∷◌, ◌++◌, drop, length, slice_get, Option, None, Some, is_some, option_map, option_and_then, true, false, nat_eq, refl, sym, ◌∙◌, arith}
use Rattle.std.proofs.lemmas.Option.{slice_get_within}
use Rattle.std.specs.Option.{option_map_or}
use Rattle.ld_model.specs.declared.property.Property.{Property}
use Rattle.ld_globals.specs.Declarations.{Declaration}
use Rattle.ld_sharing.specs.StoreView.{declaration_by}
use Rattle.ld_world.specs.Declaring.{uri_property_number, pairs_at, pairs_by, pairs_with}

-- The rest of a list begins with the element at its number.
rest_from : {A : Type 0} (xs : List A) (n : ℕ) → n < length xs → (x : A) × (slice_get xs n ≡ Some x) × (drop n xs ≡ x ∷ drop (n + 1) xs)
rest_from [] n within = absurd (omega (arith, within))
rest_from (x ∷ xs) zero within = (x, refl, refl)
rest_from (x ∷ xs) (suc n) within =
    let rest = rest_from xs n (omega (arith, within)) in
    let one : suc n + 1 ≡ suc (n + 1) = omega arith in
    (rest.0, rest.1, rw one rest.2)

-- ---- pairs

pub pairs_from : (properties : List Property) (n : ℕ) → n < length properties → pairs_by (drop n properties) ≡ pairs_at properties n ++ pairs_by (drop (n + 1) properties)
pairs_from properties n within =
    let rest = rest_from properties n within in
    rw (rest.2, rest.1) refl

-- A property without a uri has no pair, and one with a uri has that of its declaration.
pub no_pair : (properties : List Property) (n : ℕ) → option_and_then (λ (property : Property). property.uri) (slice_get properties n) ≡ None → pairs_at properties n ≡ []
no_pair properties n none = by (slice_get properties n) none
  where
    by : (found : Option Property) → option_and_then (λ (property : Property). property.uri) found ≡ None
        → option_map_or (λ property. pairs_with property.uri (declaration_by property)) found [] ≡ []
    by None none = refl
    by (Some property) none = rw none refl

pub one_pair : (properties : List Property) (n : ℕ) (uri : List ℕ) (d : Declaration) → option_and_then (λ (property : Property). property.uri) (slice_get properties n) ≡ Some uri
    → option_map declaration_by (slice_get properties n) ≡ Some d → pairs_at properties n ≡ (uri, d) ∷ []
one_pair properties n uri d has is = by (slice_get properties n) has is
  where
    by : (found : Option Property) → option_and_then (λ (property : Property). property.uri) found ≡ Some uri → option_map declaration_by found ≡ Some d
        → option_map_or (λ property. pairs_with property.uri (declaration_by property)) found [] ≡ (uri, d) ∷ []
    by None has is = cc
    by (Some property) has is = let same : declaration_by property ≡ d = cc in rw (has, same) refl

-- ---- numbers

-- The walk is at the property that is looked for.
pub number_here : (properties : List Property) (n : ℕ) (property : Property) → slice_get properties n ≡ Some property → is_some property.uri ≡ true
    → uri_property_number n 0 (drop n properties) ≡ n
number_here properties n property at some = by properties n at n
  where
    by : (rest : List Property) (i : ℕ) → slice_get rest i ≡ Some property → (m : ℕ) → uri_property_number m 0 (drop i rest) ≡ m
    by [] i at m = cc
    by (first ∷ rest) zero at m = let same : first ≡ property = cc in rw (same, some) refl
    by (first ∷ rest) (suc i) at m = by rest i at m

-- It goes on behind one with a uri, and behind one without.
pub number_behind : (properties : List Property) (n left : ℕ) (property : Property) → slice_get properties n ≡ Some property → is_some property.uri ≡ true → left ≢ 0
    → uri_property_number n left (drop n properties) ≡ uri_property_number (n + 1) (left - 1) (drop (n + 1) properties)
number_behind properties n left property at some more =
    let within = slice_get_within properties n property at in
    let rest = rest_from properties n within in
    let both : Some rest.0 ≡ Some property = sym rest.1 ∙ at in
    let same : rest.0 ≡ property = cc in
    let other : nat_eq left 0 ≡ false = grind (arith, more) in
    rw (rest.2, same, some, other) refl

pub number_past : (properties : List Property) (n left : ℕ) (property : Property) → slice_get properties n ≡ Some property → is_some property.uri ≡ false
    → uri_property_number n left (drop n properties) ≡ uri_property_number (n + 1) left (drop (n + 1) properties)
number_past properties n left property at none =
    let within = slice_get_within properties n property at in
    let rest = rest_from properties n within in
    let both : Some rest.0 ≡ Some property = sym rest.1 ∙ at in
    let same : rest.0 ≡ property = cc in
    rw (rest.2, same, none) refl
