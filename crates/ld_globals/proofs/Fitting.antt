-- Each value of the store fits the declaration of its uri.
use Rattle.std.proofs.Common.{◌≡◌, ℕ, zero, suc, List, [], ◌∷◌, map, slice_get, Bool, true, false, cond, IsTrue, Option, None, Some, option_map, refl, sym, ap, subst, ◌∙◌}
use Rattle.std.proofs.lemmas.Bool.{true≢false}
use Rattle.std.specs.Cmp.Lexicographic.{bytes_decides}
use Rattle.std.specs.List.{AllByRecursion, IsDistinct}
use Rattle.std.specs.Map.{keys_of, lookup}
use Rattle.std.specs.Str.{bytes_eq}
use Rattle.ld_base.specs.Roomy.{Roomy}
use Rattle.ld_value.specs.Datum.{datum_of}
use Rattle.ld_globals.specs.Declarations.{declaration_of, fits_declared}
use Rattle.ld_globals.specs.Kept.{DeclareOnce, IsCell, IsWhole, key_of, uri_and_declaration, entry_uri, written_of}
use Rattle.ld_globals.specs.Store.{Key, Write, declared_in, same_key}
use Rattle.ld_globals.specs.declared.cell.Cell.{Cell}
use Rattle.ld_globals.specs.declared.declared.Declared.{Declared}
use Rattle.ld_globals.specs.declared.key_number.KeyNumber.{KeyNumber}
use Rattle.ld_globals.proofs.Looked.{all-there, declared-found}
use Rattle.ld_globals.proofs.Since.{found-cell, keys-equal}

-- An initial value fits.
pub initial-fits : (declared : List (Roomy × Declared)) (uri : List ℕ) (d : Declared) → AllByRecursion IsWhole declared → lookup (λ k. bytes_eq uri k.bytes) declared ≡ Some d → IsTrue (fits_declared (declaration_of d) (option_map datum_of d.initial))
initial-fits [] uri d whole found = cc
initial-fits (e ∷ es) uri d whole found = by (initial-fits es uri d whole.1) (bytes_eq uri e.0.bytes) found
  where
    by : (lookup (λ k. bytes_eq uri k.bytes) es ≡ Some d → IsTrue (fits_declared (declaration_of d) (option_map datum_of d.initial))) → (b : Bool) → cond b (Some e.1) (lookup (λ k. bytes_eq uri k.bytes) es) ≡ Some d → IsTrue (fits_declared (declaration_of d) (option_map datum_of d.initial))
    by on true is = let same : e.1 ≡ d = cc in subst (λ t. IsTrue (fits_declared (declaration_of t) (option_map datum_of t.initial))) same whole.0
    by on false is = on is

apart : (uri : List ℕ) (es : List (Roomy × Declared)) (j : ℕ) (f : Roomy × Declared) (a : Roomy) → AllByRecursion (λ y. bytes_eq a.bytes y.bytes ≡ false) (keys_of es) → slice_get es j ≡ Some f → bytes_eq uri a.bytes ≡ true → bytes_eq uri f.0.bytes ≡ true → ⊥
apart uri [] j f a all there here same = cc
apart uri (e ∷ es) zero f a all there here same =
    let is : e ≡ f = cc in
    let both = sym ((bytes_decides uri a.bytes).0 here) ∙ (bytes_decides uri f.0.bytes).0 same ∙ ap (λ x. x.0.bytes) (sym is) in
    true≢false (sym ((bytes_decides a.bytes e.0.bytes).1 both) ∙ all.0)
apart uri (e ∷ es) (suc j) f a all there here same = apart uri es j f a all.1 there here same

-- The entry of a uri is the one that declares it.
own-entry : (es : List (Roomy × Declared)) (i : ℕ) (e : Roomy × Declared) (uri : List ℕ) → DeclareOnce es → slice_get es i ≡ Some e → bytes_eq uri e.0.bytes ≡ true → lookup (λ k. bytes_eq uri k.bytes) es ≡ Some e.1
unfolding IsDistinct
own-entry [] i e uri distinct there same = cc
own-entry (f ∷ es) zero e uri distinct there same = let is : f ≡ e = cc in rw (ap (λ x. bytes_eq uri x.0.bytes) is ∙ same) (ap (λ x. Some x.1) is)
own-entry (f ∷ es) (suc i) e uri distinct there same = by (own-entry es i e uri distinct.1 there same) (bytes_eq uri f.0.bytes) refl
  where
    by : lookup (λ k. bytes_eq uri k.bytes) es ≡ Some e.1 → (b : Bool) → bytes_eq uri f.0.bytes ≡ b → cond b (Some f.1) (lookup (λ k. bytes_eq uri k.bytes) es) ≡ Some e.1
    by on true here = absurd (apart uri es i e f.0 distinct.0 there here same)
    by on false other = on

-- A written value fits.
pub written-fits : (declared : List (Roomy × Declared)) (persons : List (List ℕ)) (cells : List (KeyNumber × Cell)) (key : Key) (d : Declared) (w : Write) → DeclareOnce declared → AllByRecursion (IsCell declared persons) cells
    → lookup (λ k. bytes_eq key.uri k.bytes) declared ≡ Some d → lookup (same_key key) (map (written_of declared persons) cells) ≡ Some w → IsTrue (fits_declared (declaration_of d) w.value)
written-fits declared persons cells key d w distinct all found written =
    let f = found-cell (key_of declared persons) key cells w written in
    let cell = all-there (IsCell declared persons) cells f.0 f.1 all f.2 in
    let uri : key.uri ≡ cell.entry.0.bytes = ap (λ k. k.uri) (keys-equal key (key_of declared persons f.1.0) f.3) ∙ ap entry_uri cell.there in
    let own = own-entry declared f.1.0.uri cell.entry key.uri distinct cell.there ((bytes_decides key.uri cell.entry.0.bytes).1 uri) in
    let both : Some cell.entry.1 ≡ Some d = sym own ∙ found in
    let same : cell.entry.1 ≡ d = cc in
    subst (λ v. IsTrue (fits_declared (declaration_of d) v)) (ap (λ x. x.value) f.4) (subst (λ t. IsTrue (fits_declared (declaration_of t) (option_map datum_of f.1.1.value))) same cell.fitting)

-- A key of a uri that is not declared was never written.
pub never-written : (declared : List (Roomy × Declared)) (persons : List (List ℕ)) (cells : List (KeyNumber × Cell)) (key : Key) → DeclareOnce declared → AllByRecursion (IsCell declared persons) cells
    → declared_in (map uri_and_declaration declared) key.uri ≡ None → lookup (same_key key) (map (written_of declared persons) cells) ≡ None
never-written declared persons cells key distinct all none = by (lookup (same_key key) (map (written_of declared persons) cells)) refl
  where
    by : (o : Option Write) → lookup (same_key key) (map (written_of declared persons) cells) ≡ o → o ≡ None
    by None found = refl
    by (Some w) found =
        let f = found-cell (key_of declared persons) key cells w found in
        let cell = all-there (IsCell declared persons) cells f.0 f.1 all f.2 in
        let uri : key.uri ≡ cell.entry.0.bytes = ap (λ k. k.uri) (keys-equal key (key_of declared persons f.1.0) f.3) ∙ ap entry_uri cell.there in
        let own = own-entry declared f.1.0.uri cell.entry key.uri distinct cell.there ((bytes_decides key.uri cell.entry.0.bytes).1 uri) in
        let both : None ≡ Some (declaration_of cell.entry.1) = sym none ∙ declared-found declared key.uri ∙ ap (option_map declaration_of) own in
        cc
