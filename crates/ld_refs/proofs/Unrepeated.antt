-- Parts of which none repeats the identifier of an earlier one.
use Rattle.std.proofs.Common.{◌≡◌, ℕ, ◌+◌, List, [], ◌∷◌, ◌++◌, length, take, Bool, true, false, refl, sym, ◌∙◌, length-append}
use Rattle.std.proofs.Math.Seq.{append_snoc, take-append_seam}
use Rattle.std.proofs.lemmas.Grind.{flat_map-append}
use Rattle.std.proofs.lemmas.List.{append-nil}
use Rattle.std.specs.List.{list_any}
use Rattle.std.specs.Str.{bytes_eq}
use Rattle.ld_json.specs.declared.code.Code.TheVariants.{RepeatedId}
use Rattle.ld_model.specs.Counting.{each_numbered_from}
use Rattle.ld_names.specs.Identifiers.{all_differ}
use Rattle.ld_walk.specs.Parts.{What, Declares, Refers, Lists, Shares, Completes, Follows, Judges, Leaf, LeftOut, Types, Other, Part}
use Rattle.ld_walk.specs.Places.{At}
use Rattle.ld_refs.specs.declared.checks.repeats.Texts.TheVariants.{Identifiers}
use Rattle.ld_refs.specs.Repeats.{repeated_at, repeated_faults, repeated_if, repeated_in, text_in, texts_in}
use Rattle.ld_names.proofs.Differing.{differ_further}

pub none_before : {A : Type 0} (xs ys : List A) → xs ++ ys ≡ [] → xs ≡ []
none_before [] ys none = refl
none_before (x ∷ xs) ys none = cc

pub none_behind : {A : Type 0} (xs ys : List A) → xs ++ ys ≡ [] → ys ≡ []
none_behind [] ys none = none
none_behind (x ∷ xs) ys none = cc

not_repeated : (at : At) (earlier : List (List ℕ)) (id : List ℕ) → repeated_if RepeatedId at earlier id ≡ [] → list_any (bytes_eq id) earlier ≡ false
not_repeated at earlier id none = by (list_any (bytes_eq id) earlier) refl
  where
    by : (b : Bool) → list_any (bytes_eq id) earlier ≡ b → b ≡ false
    by false is = refl
    by true is = let no = rw is at none in cc

-- The identifier of what has one is new.
differ_with : (at : At) (what : What) (earlier : List (List ℕ)) → repeated_in Identifiers earlier at what ≡ [] → all_differ earlier ≡ true → all_differ (earlier ++ text_in Identifiers what) ≡ true
differ_with at (Declares kind id visible) earlier none differ = differ_further earlier id differ (not_repeated at earlier id none)
differ_with at (Refers wanted id) earlier none differ = rw (append-nil earlier) differ
differ_with at (Lists wanted ids) earlier none differ = rw (append-nil earlier) differ
differ_with at (Shares uri) earlier none differ = rw (append-nil earlier) differ
differ_with at (Completes kind) earlier none differ = rw (append-nil earlier) differ
differ_with at (Follows completes) earlier none differ = rw (append-nil earlier) differ
differ_with at (Judges condition) earlier none differ = rw (append-nil earlier) differ
differ_with at (Leaf of_members) earlier none differ = rw (append-nil earlier) differ
differ_with at LeftOut earlier none differ = rw (append-nil earlier) differ
differ_with at (Types typed) earlier none differ = rw (append-nil earlier) differ
differ_with at Other earlier none differ = rw (append-nil earlier) differ

texts_next : (front : List Part) (part : Part) → texts_in Identifiers (front ++ part ∷ []) ≡ texts_in Identifiers front ++ text_in Identifiers part.what
texts_next front part = flat_map-append (λ p. text_in Identifiers p.what) front (part ∷ []) ∙ rw (append-nil (text_in Identifiers part.what)) refl

differ_from : (parts front rest : List Part) → front ++ rest ≡ parts → each_numbered_from (repeated_at Identifiers parts) (length front) rest ≡ [] → all_differ (texts_in Identifiers front) ≡ true → all_differ (texts_in Identifiers parts) ≡ true
differ_from parts front [] is none differ = rw (sym is, append-nil front) differ
differ_from parts front (part ∷ rest) is none differ =
    let here = repeated_at Identifiers parts (length front) part in
    let further = each_numbered_from (repeated_at Identifiers parts) (length front + 1) rest in
    let earlier : take (length front) parts ≡ front = rw (sym is) (take-append_seam front (part ∷ rest)) in
    let new : repeated_in Identifiers (texts_in Identifiers front) part.at part.what ≡ [] = rw (sym earlier) (none_before here further none) in
    let count : length (front ++ part ∷ []) ≡ length front + 1 = length-append front (part ∷ []) in
    differ_from parts (front ++ part ∷ []) rest (append_snoc front part rest ∙ is) (rw count (none_behind here further none)) (rw (texts_next front part) (differ_with part.at part.what (texts_in Identifiers front) new differ))

-- Where no part repeats an identifier, those of the parts differ.
pub faultless_differ : (parts : List Part) → repeated_faults Identifiers parts ≡ [] → all_differ (texts_in Identifiers parts) ≡ true
faultless_differ parts none = differ_from parts [] parts refl none refl
