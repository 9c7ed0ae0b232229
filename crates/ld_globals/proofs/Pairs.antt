-- What is declared, pair by pair.
use Rattle.std.proofs.Common.{◌≡◌, ℕ, zero, suc, ◌+◌, List, [], ◌∷◌, ◌++◌, map, take, slice_get, true, false, is_some, Option, Some, None, option_map, refl, sym, ap, subst, ◌∙◌, arith, append-nil, append_assoc}
use Rattle.std.proofs.lemmas.List.{map-append}
use Rattle.std.proofs.lemmas.Option.{slice_get-map}
use Rattle.lru.proofs.Splits.{all_both}
use Rattle.std.specs.List.{AllByRecursion}
use Rattle.std.specs.Map.{lookup}
use Rattle.std.specs.Str.{bytes_eq}
use Rattle.ld_base.specs.Roomy.{Roomy}
use Rattle.ld_globals.specs.Declarations.{declaration_of}
use Rattle.ld_globals.specs.Kept.{Extends, IsCell, IsWhole, uri_and_declaration, store_of, written_of}
use Rattle.ld_globals.specs.Store.{Agrees, Differs, IsFirstToDiffer, with_declared}
use Rattle.ld_globals.specs.declared.cell.Cell.{Cell}
use Rattle.ld_globals.specs.declared.declared.Declared.{Declared}
use Rattle.ld_globals.specs.declared.key_number.KeyNumber.{KeyNumber}
use Rattle.ld_globals.proofs.Looked.{declared-found}
use Rattle.ld_globals.proofs.Written.{still-there, declaration-is}

-- ---- whether one pair differs

module _ (es : List (Roomy × Declared)) (uri : List ℕ) (new : Declared) where
  pub agrees-absent : lookup (λ k. bytes_eq uri k.bytes) es ≡ None → Agrees (store_of es [] [] 0 0) (uri, declaration_of new)
  agrees-absent none d is =
      let bad : None ≡ Some d = sym (ap (option_map declaration_of) none) ∙ sym (declared-found es uri) ∙ is in
      cc

  module _ (old : Declared) (found : lookup (λ k. bytes_eq uri k.bytes) es ≡ Some old) where
    pub agrees-same : declaration_of old ≡ declaration_of new → Agrees (store_of es [] [] 0 0) (uri, declaration_of new)
    agrees-same same d is = sym (declaration-is es uri d old is found) ∙ same

    pub differs-other : (declaration_of old ≡ declaration_of new → ⊥) → Differs (store_of es [] [] 0 0) (uri, declaration_of new)
    differs-other other = (declaration_of old, declared-found es uri ∙ ap (option_map declaration_of) found, other)

-- ---- the pairs up to a place

pub all-taken : {X : Type 0} (P : X → Type 0) (xs : List X) (i : ℕ) (x : X) → slice_get xs i ≡ Some x → AllByRecursion P (take i xs) → P x → AllByRecursion P (take (i + 1) xs)
all-taken P [] i x there all here = cc
all-taken P (y ∷ ys) zero x there all here = let same : y ≡ x = cc in (subst P (sym same) here, tt)
all-taken P (y ∷ ys) (suc i) x there all here = let one : suc i + 1 ≡ suc (i + 1) = omega arith in rw (one) (all.0, all-taken P ys i x there all.1 here)

-- ---- one pair more

module _ (es : List (Roomy × Declared)) (uri : Roomy) (new : Declared) where
  pub with-present : is_some (lookup (λ k. bytes_eq uri.bytes k.bytes) es) ≡ true → map uri_and_declaration es ≡ with_declared (map uri_and_declaration es) (uri_and_declaration (uri, new))
  with-present some = by (lookup (λ k. bytes_eq uri.bytes k.bytes) es) refl some
    where
      by : (o : Option Declared) → lookup (λ k. bytes_eq uri.bytes k.bytes) es ≡ o → is_some o ≡ true → map uri_and_declaration es ≡ with_declared (map uri_and_declaration es) (uri_and_declaration (uri, new))
      by None found some = cc
      by (Some d) found some = rw (declared-found es uri.bytes, found) refl

  pub with-absent : is_some (lookup (λ k. bytes_eq uri.bytes k.bytes) es) ≡ false → map uri_and_declaration (es ++ (uri, new) ∷ []) ≡ with_declared (map uri_and_declaration es) (uri_and_declaration (uri, new))
  with-absent none = by (lookup (λ k. bytes_eq uri.bytes k.bytes) es) refl none
    where
      by : (o : Option Declared) → lookup (λ k. bytes_eq uri.bytes k.bytes) es ≡ o → is_some o ≡ false → map uri_and_declaration (es ++ (uri, new) ∷ []) ≡ with_declared (map uri_and_declaration es) (uri_and_declaration (uri, new))
      by None found none = rw (declared-found es uri.bytes, found) (map-append uri_and_declaration es ((uri, new) ∷ []))
      by (Some d) found none = cc

  pub none-found : is_some (lookup (λ k. bytes_eq uri.bytes k.bytes) es) ≡ false → lookup (λ k. bytes_eq uri.bytes k.bytes) es ≡ None
  none-found none = by (lookup (λ k. bytes_eq uri.bytes k.bytes) es) none
    where
      by : (o : Option Declared) → is_some o ≡ false → o ≡ None
      by None none = refl
      by (Some d) none = cc

-- ---- what was written stays when more is declared

module _ (declared more : List (Roomy × Declared)) (persons : List (List ℕ)) where
  pub cell-declared : (e : KeyNumber × Cell) → IsCell declared persons e → IsCell (declared ++ more) persons e
  cell-declared e cell = record { entry = cell.entry; there = still-there declared more e.0.uri cell.entry cell.there; person = cell.person; suited = cell.suited; fitting = cell.fitting }

  pub written-declared : (cells : List (KeyNumber × Cell)) → AllByRecursion (IsCell declared persons) cells → map (written_of (declared ++ more) persons) cells ≡ map (written_of declared persons) cells
  written-declared [] all = refl
  written-declared (e ∷ es) all = rw (written-declared es all.1, all.0.there, still-there declared more e.0.uri all.0.entry all.0.there) refl

-- ---- one declaration after another

pub extends-on : (a b c : List (Roomy × Declared)) → Extends a b → Extends b c → Extends a c
extends-on a b c first second =
    (first.0 ++ second.0, second.1 ∙ ap (λ l. l ++ second.0) first.1 ∙ append_assoc a first.0 second.0, all_both IsWhole first.0 second.0 first.2 second.2)

pub extends-none : (a : List (Roomy × Declared)) → Extends a a
extends-none a = ([], sym (append-nil a), tt)

-- A pair of the list is the first to differ, where it differs and those before it do not.
pub first-to-differ : (es pairs : List (Roomy × Declared)) (place : ℕ) (uri : Roomy) (new : Declared) → slice_get pairs place ≡ Some (uri, new) → Differs (store_of es [] [] 0 0) (uri_and_declaration (uri, new)) → AllByRecursion (Agrees (store_of es [] [] 0 0)) (take place (map uri_and_declaration pairs)) → IsFirstToDiffer (store_of es [] [] 0 0) (map uri_and_declaration pairs) place
first-to-differ es pairs place uri new there differs before = record { pair = uri_and_declaration (uri, new); there = slice_get-map uri_and_declaration pairs place ∙ ap (option_map uri_and_declaration) there; differs = differs; before = before }

pub taken-on : (es pairs : List (Roomy × Declared)) (place : ℕ) (uri : Roomy) (new : Declared) → slice_get pairs place ≡ Some (uri, new) → Agrees (store_of es [] [] 0 0) (uri_and_declaration (uri, new)) → AllByRecursion (Agrees (store_of es [] [] 0 0)) (take place (map uri_and_declaration pairs)) → AllByRecursion (Agrees (store_of es [] [] 0 0)) (take (place + 1) (map uri_and_declaration pairs))
taken-on es pairs place uri new there agrees before = all-taken (Agrees (store_of es [] [] 0 0)) (map uri_and_declaration pairs) place (uri_and_declaration (uri, new)) (slice_get-map uri_and_declaration pairs place ∙ ap (option_map uri_and_declaration) there) before agrees
