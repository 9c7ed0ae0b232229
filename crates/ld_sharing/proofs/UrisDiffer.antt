-- In a valid unit no two properties have one uri.
use Rattle.std.proofs.Common.{◌≡◌, ℕ, ◌+◌, List, [], ◌∷◌, ◌++◌, length, map, take, filter_map, flat_map, Option, None, Some, Bool, true, false, not, codes, refl, sym, ◌∙◌, length-append}
use Rattle.std.proofs.Math.Seq.{append_snoc, take-append_seam}
use Rattle.std.proofs.lemmas.Bool.{and_parts, or_parts}
use Rattle.std.proofs.lemmas.Grind.{flat_map-append}
use Rattle.std.proofs.lemmas.List.{append-nil}
use Rattle.std.specs.List.{AllByRecursion, IsDistinct, cons_option, list_any}
use Rattle.std.specs.Str.{bytes_eq}
use Rattle.ld_json.specs.declared.code.Code.TheVariants.{RepeatedUri}
use Rattle.ld_json.specs.Fault.{Told}
use Rattle.ld_json.specs.declared.file.FileNo.TheVariants as file
use Rattle.ld_model.specs.Counting.{each_numbered, each_numbered_from}
use Rattle.ld_model.specs.Roles.{roles_of}
use Rattle.ld_model.specs.declared.property.Property.{Property}
use Rattle.ld_model.specs.declared.unit.Level.TheVariants.{B}
use Rattle.ld_model.specs.declared.unit.Unit.{Unit}
use Rattle.ld_walk.specs.CommonParts.{optional_reference_parts}
use Rattle.ld_walk.specs.ExpressionParts.{plain_part}
use Rattle.ld_walk.specs.Parts.{What, Declared, Declares, Shares, Types, Part}
use Rattle.ld_walk.specs.Places.{At, nth, root}
use Rattle.ld_walk.specs.declared.kind.Kind.TheVariants as kind
use Rattle.ld_walk.specs.declared.kind.Wanted.TheVariants as wanted
use Rattle.ld_names.specs.Identifiers.{all_differ}
use Rattle.ld_names.proofs.Differing.{differ_first, differ_further, differ_second}
use Rattle.ld_parts.specs.Listing.{middle_parts, parts_of, property_parts, property_parts_at, role_part, shared_parts}
use Rattle.ld_refs.specs.Checks.{IsValid, text_faults, check_faults}
use Rattle.ld_refs.specs.Repeats.{repeated_if}
use Rattle.ld_refs.proofs.Unrepeated.{none_before, none_behind}

-- The uris of the properties that have one, in order.
abbrev pub uris_of : List Property → List (List ℕ)
uris_of properties = filter_map (λ property. property.uri) properties

-- The uri of a part that has one.
abbrev uri_in : What → List (List ℕ)
uri_in (Shares uri) = uri ∷ []
uri_in _ = []

abbrev uris : List Part → List (List ℕ)
uris parts = flat_map (λ part. uri_in part.what) parts

both_uris : (xs ys : List Part) → uris (xs ++ ys) ≡ uris xs ++ uris ys
both_uris xs ys = flat_map-append (λ part. uri_in part.what) xs ys

-- ---- parts of which none repeats a uri

not_repeated : (at : At) (earlier : List (List ℕ)) (uri : List ℕ) → repeated_if RepeatedUri at earlier uri ≡ []
    → list_any (bytes_eq uri) earlier ≡ false
not_repeated at earlier uri none = by (list_any (bytes_eq uri) earlier) refl
  where
    by : (b : Bool) → list_any (bytes_eq uri) earlier ≡ b → b ≡ false
    by false is = refl
    by true is = let no = rw is at none in cc

-- What the check of repeated texts says of a part, where the texts are uris.
abbrev repeated_uri_in : List (List ℕ) → At → What → List Told
repeated_uri_in earlier at (Shares uri) = repeated_if RepeatedUri at earlier uri
repeated_uri_in earlier at _ = []

abbrev repeated_uri_at : List Part → ℕ → Part → List Told
repeated_uri_at parts i part = repeated_uri_in (uris (take i parts)) part.at part.what

one_more : (at : At) (what : What) (earlier : List (List ℕ)) → repeated_uri_in earlier at what ≡ []
    → all_differ earlier ≡ true → all_differ (earlier ++ uri_in what) ≡ true
one_more at (Shares uri) earlier none differ = differ_further earlier uri differ (not_repeated at earlier uri none)
one_more at _ earlier none differ = rw (append-nil earlier) differ

uris_next : (front : List Part) (part : Part) → uris (front ++ part ∷ []) ≡ uris front ++ uri_in part.what
uris_next front part = both_uris front (part ∷ []) ∙ rw (append-nil (uri_in part.what)) refl

differ_from : (parts front rest : List Part) → front ++ rest ≡ parts
    → each_numbered_from (repeated_uri_at parts) (length front) rest ≡ [] → all_differ (uris front) ≡ true
    → all_differ (uris parts) ≡ true
differ_from parts front [] is none differ = rw (sym is, append-nil front) differ
differ_from parts front (part ∷ rest) is none differ =
    let here = repeated_uri_at parts (length front) part in
    let further = each_numbered_from (repeated_uri_at parts) (length front + 1) rest in
    let earlier : take (length front) parts ≡ front = rw (sym is) (take-append_seam front (part ∷ rest)) in
    let new : repeated_uri_in (uris front) part.at part.what ≡ [] = rw (sym earlier) (none_before here further none) in
    let count : length (front ++ part ∷ []) ≡ length front + 1 = length-append front (part ∷ []) in
    differ_from parts (front ++ part ∷ []) rest (append_snoc front part rest ∙ is) (rw count (none_behind here further none))
    (rw (uris_next front part) (one_more part.at part.what (uris front) new differ))

unrepeated_differ : (parts : List Part) → each_numbered (repeated_uri_at parts) parts ≡ [] → all_differ (uris parts) ≡ true
unrepeated_differ parts none = differ_from parts [] parts refl none refl

-- ---- the parts of properties

of_property : (at : At) (property : Property) → uris (property_parts_at at property) ≡ cons_option property.uri []
unfolding property_parts_at
of_property at property = by property.uri property.role
  where
    by : (uri role : Option (List ℕ))
        → uris (record { at = at; level = B; what = Declares kind.Property property.identifier None }
        ∷ (shared_parts at uri
        ++ (plain_part at (Types (Declared property)) ∷ optional_reference_parts at (codes "role") wanted.Role role)))
        ≡ cons_option uri []
    by None None = refl
    by None (Some role) = refl
    by (Some uri) None = refl
    by (Some uri) (Some role) = refl

with_uri : (uri : Option (List ℕ)) (uris : List (List ℕ)) → cons_option uri [] ++ uris ≡ cons_option uri uris
with_uri None uris = refl
with_uri (Some uri) uris = refl

of_properties : (at : At) (n : ℕ) (properties : List Property)
    → uris (each_numbered_from (property_parts at) n properties) ≡ uris_of properties
of_properties at n [] = refl
of_properties at n (property ∷ properties) =
    both_uris (property_parts at n property) (each_numbered_from (property_parts at) (n + 1) properties)
    ∙ rw (of_property (nth at (codes "properties") n) property, of_properties at (n + 1) properties)
    (with_uri property.uri (uris_of properties))

-- ---- the unit

-- The uris of properties stand in the middle of those of all parts.
abbrev listed : Unit → List Part
listed unit = each_numbered (property_parts (root file.Properties)) unit.properties

among_middle : (unit : Unit) → all_differ (uris (middle_parts unit)) ≡ true → all_differ (uris (listed unit)) ≡ true
unfolding middle_parts
among_middle unit differ = differ_first (uris (listed unit)) _ (rw (both_uris (listed unit) _) at differ)

among_all : (unit : Unit) → all_differ (uris (parts_of unit)) ≡ true → all_differ (uris (middle_parts unit)) ≡ true
unfolding parts_of
among_all unit differ =
    let roles = map (role_part (root file.Roles)) (roles_of unit) in
    differ_first (uris (middle_parts unit)) _
    (rw (both_uris (middle_parts unit) _) at
    (differ_second (uris roles) _ (rw (both_uris roles _) at differ)))

all_parts : (unit : Unit) → IsValid unit → all_differ (uris (parts_of unit)) ≡ true
unfolding check_faults text_faults
all_parts unit valid =
    let none : text_faults (parts_of unit) ≡ [] = none_before _ _ valid.faultless in
    unrepeated_differ (parts_of unit) (search (none_behind, none))

pub uris_differ : (unit : Unit) → IsValid unit → all_differ (uris_of unit.properties) ≡ true
uris_differ unit valid =
    rw (of_properties (root file.Properties) 0 unit.properties) at (among_middle unit (among_all unit (all_parts unit valid)))

-- ---- as a list without repetition

not_not : (b : Bool) → not b ≡ true → b ≡ false
not_not true is = sym is
not_not false is = refl

-- The first is none of the others.
pub not_listed : (x : List ℕ) (xs : List (List ℕ)) → all_differ (x ∷ xs) ≡ true → list_any (bytes_eq x) xs ≡ false
not_listed x xs differ =
    not_not (list_any (bytes_eq x) xs) (and_parts (not (list_any (bytes_eq x) xs)) (all_differ xs) differ).0

each_other : (x : List ℕ) (xs : List (List ℕ)) → list_any (bytes_eq x) xs ≡ false
    → AllByRecursion (λ y. bytes_eq x y ≡ false) xs
each_other x [] none = tt
each_other x (y ∷ ys) none =
    let both = or_parts (bytes_eq x y) (list_any (bytes_eq x) ys) none in
    (both.0, each_other x ys both.1)

apart : (xs : List (List ℕ)) → all_differ xs ≡ true → IsDistinct bytes_eq xs
unfolding IsDistinct
apart [] differ = tt
apart (x ∷ xs) differ =
    (each_other x xs (not_listed x xs differ), apart xs (and_parts (not (list_any (bytes_eq x) xs)) (all_differ xs) differ).1)

pub uris_distinct : (unit : Unit) → IsValid unit → IsDistinct bytes_eq (uris_of unit.properties)
uris_distinct unit valid = apart (uris_of unit.properties) (uris_differ unit valid)
