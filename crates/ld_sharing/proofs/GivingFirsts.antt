-- The first property with a uri, and the first person with a name: no two have the same.
use Rattle.std.proofs.Common.{◌≡◌, refl, sym, ap, ◌∙◌, ℕ, zero, suc, ◌+◌, inl, inr, List, [], ◌∷◌, map, slice_get, Option, Some, None, Bool, true, false, cond, not, ◌&&◌, arith}
use Rattle.std.proofs.lemmas.Bool.{and_from, and_parts, or_parts}
use Rattle.std.proofs.lemmas.Slice.Eq.{bytes_eq-Decides}
use Rattle.std.specs.List.{cons_option, list_any, position_from}
use Rattle.std.specs.Str.{bytes_eq}
use Rattle.ld_model.specs.Properties.{is_personal}
use Rattle.ld_model.specs.declared.property.Property.{Property}
use Rattle.ld_names.specs.Identifiers.{all_differ}
use Rattle.ld_names.proofs.Differing.{bytes_eq-turned, is_itself}
use Rattle.ld_expr.specs.Lookup.{is_some_and}
use Rattle.ld_roles.specs.Roster.{PersonState, Persons}
use Rattle.ld_firing.proofs.Found.{in_filter_map}
use Rattle.ld_state.proofs.Elements.{IsIn, different, in_map, in_stands, none_is_some, some_same}
use Rattle.ld_sharing.specs.Globals.{has_uri}
use Rattle.ld_sharing.proofs.UrisDiffer.{not_listed, uris_of}

-- ---- persons

not_in : (x y : List ℕ) (xs : List (List ℕ)) → list_any (bytes_eq x) xs ≡ false → IsIn xs y → bytes_eq x y ≡ false
not_in x y [] none there = absurd there
not_in x y (z ∷ zs) none (inl is) = ap (bytes_eq x) (sym is) ∙ (or_parts (bytes_eq x z) (list_any (bytes_eq x) zs) none).0
not_in x y (z ∷ zs) none (inr later) = not_in x y zs (or_parts (bytes_eq x z) (list_any (bytes_eq x) zs) none).1 later

another : (x y : List ℕ) (xs : List (List ℕ)) → all_differ (x ∷ xs) ≡ true → IsIn xs y → bytes_eq y x ≡ false
another x y xs differ there = bytes_eq-turned y x ∙ not_in x y xs (not_listed x xs differ) there

others_differ : (x : List ℕ) (xs : List (List ℕ)) → all_differ (x ∷ xs) ≡ true → all_differ xs ≡ true
others_differ x xs differ = (and_parts (not (list_any (bytes_eq x) xs)) (all_differ xs) differ).1

pub first_named : (i : ℕ) (persons : Persons) (p : ℕ) (person : PersonState)
    → all_differ (map (λ one. one.name) persons) ≡ true → slice_get persons p ≡ Some person
    → position_from (λ one. bytes_eq person.name one.name) i persons ≡ Some (i + p)
first_named i [] p person differ at = none_is_some at
first_named i (x ∷ xs) zero person differ at =
    ap (λ b. cond b (Some i) (position_from (λ one. bytes_eq person.name one.name) (i + 1) xs))
    (ap (λ one. bytes_eq person.name one.name) (some_same at) ∙ is_itself person.name)
    ∙ ap Some (omega arith)
first_named i (x ∷ xs) (suc p) person differ at =
    let names = map (λ (one : PersonState). one.name) xs in
    ap (λ b. cond b (Some i) (position_from (λ one. bytes_eq person.name one.name) (i + 1) xs))
    (another x.name person.name names differ (in_map (λ one. one.name) xs person (in_stands xs p person at)))
    ∙ first_named (i + 1) xs p person (others_differ x.name names differ) at
    ∙ ap Some (omega arith)

-- ---- properties

and_false : (a b : Bool) → b ≡ false → (a && b) ≡ false
and_false true b is = is
and_false false b is = refl

-- Whether a property has a uri.
has_own : (uri : List ℕ) (personal : Bool) (x : Property) → x.uri ≡ Some uri → is_personal x.kind ≡ personal
    → has_uri uri personal x ≡ true
has_own uri true x named own =
    and_from (is_personal x.kind) (is_some_and (bytes_eq uri) x.uri) own (ap (is_some_and (bytes_eq uri)) named ∙ is_itself uri)
has_own uri false x named own =
    and_from (not (is_personal x.kind)) (is_some_and (bytes_eq uri) x.uri) (ap not own) (ap (is_some_and (bytes_eq uri)) named ∙ is_itself uri)

has_other : (uri : List ℕ) (personal : Bool) (x : Property) → is_some_and (bytes_eq uri) x.uri ≡ false
    → has_uri uri personal x ≡ false
has_other uri true x other = and_false (is_personal x.kind) (is_some_and (bytes_eq uri) x.uri) other
has_other uri false x other = and_false (not (is_personal x.kind)) (is_some_and (bytes_eq uri) x.uri) other

-- What is known of a property that has the uri.
pub record Has (uri : List ℕ) (personal : Bool) (x : Property) : Type 0 where
  pub named : x.uri ≡ Some uri
  pub own : is_personal x.kind ≡ personal

is_uri : (uri : List ℕ) (o : Option (List ℕ)) → is_some_and (bytes_eq uri) o ≡ true → o ≡ Some uri
is_uri uri None is = different (sym is)
is_uri uri (Some other) is = ap Some (sym ((bytes_eq-Decides uri other).0 is))

no_longer : (b : Bool) → not b ≡ true → b ≡ false
no_longer true is = sym is
no_longer false is = refl

pub has_tells : (uri : List ℕ) (personal : Bool) (x : Property) → has_uri uri personal x ≡ true → Has uri personal x
has_tells uri true x has =
    let both = and_parts (is_personal x.kind) (is_some_and (bytes_eq uri) x.uri) has in
    record { named = is_uri uri x.uri both.1; own = both.0 }
has_tells uri false x has =
    let both = and_parts (not (is_personal x.kind)) (is_some_and (bytes_eq uri) x.uri) has in
    record { named = is_uri uri x.uri both.1; own = no_longer (is_personal x.kind) both.0 }

pub first_with : (uri : List ℕ) (personal : Bool) (i : ℕ) (properties : List Property) (n : ℕ) (property : Property)
    → all_differ (uris_of properties) ≡ true → slice_get properties n ≡ Some property → Has uri personal property
    → position_from (has_uri uri personal) i properties ≡ Some (i + n)
first_with uri personal i [] n property differ at has = none_is_some at
first_with uri personal i (x ∷ xs) zero property differ at has =
    ap (λ b. cond b (Some i) (position_from (has_uri uri personal) (i + 1) xs))
    (ap (has_uri uri personal) (some_same at) ∙ has_own uri personal property has.named has.own)
    ∙ ap Some (omega arith)
first_with uri personal i (x ∷ xs) (suc n) property differ at has =
    by (λ rest. first_with uri personal (i + 1) xs n property rest at has) x.uri refl
  where
    after : Option ℕ
    after = position_from (has_uri uri personal) (i + 1) xs

    there : IsIn (uris_of xs) uri
    there = in_filter_map (λ one. one.uri) xs property uri (in_stands xs n property at) has.named

    later : is_some_and (bytes_eq uri) x.uri ≡ false → after ≡ Some (i + 1 + n)
        → cond (has_uri uri personal x) (Some i) after ≡ Some (i + suc n)
    later other rest =
        ap (λ b. cond b (Some i) after) (has_other uri personal x other) ∙ rest ∙ ap Some (omega arith)

    by : (all_differ (uris_of xs) ≡ true → after ≡ Some (i + 1 + n)) → (o : Option (List ℕ)) → x.uri ≡ o
        → cond (has_uri uri personal x) (Some i) after ≡ Some (i + suc n)
    by rest None is =
        later (ap (is_some_and (bytes_eq uri)) is)
        (rest (ap (λ o. all_differ (cons_option o (uris_of xs))) (sym is) ∙ differ))
    by rest (Some other) is =
        let these = ap (λ o. all_differ (cons_option o (uris_of xs))) (sym is) ∙ differ in
        later (ap (is_some_and (bytes_eq uri)) is ∙ another other uri (uris_of xs) these there)
        (rest (others_differ other (uris_of xs) these))
