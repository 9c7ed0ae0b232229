-- Keys by their numbers.
use Rattle.std.proofs.Common.{◌≡◌, ℕ, List, [], ◌∷◌, map, Bool, true, false, ◌&&◌, nat_eq, Option, Some, None, option_map, refl, ap, ◌∙◌}
use Rattle.std.proofs.lemmas.Map.{lookup-none}
use Rattle.std.proofs.lemmas.Option.{slice_get-map}
use Rattle.std.specs.Cmp.Lexicographic.{bytes_decides}
use Rattle.std.specs.List.{AllByRecursion}
use Rattle.std.specs.Map.{lookup, keys_of}
use Rattle.std.specs.Option.{option_eq}
use Rattle.std.specs.Str.{bytes_eq}
use Rattle.ld_base.specs.Roomy.{Roomy}
use Rattle.ld_globals.specs.Kept.{IsCell, IsNumbered, IsNumbering, IsNumberOf, IsPersonNumber, IsUnknown, key_of, same_number, write_of, written_of}
use Rattle.ld_globals.specs.Store.{Key, same_key}
use Rattle.ld_globals.specs.declared.cell.Cell.{Cell}
use Rattle.ld_globals.specs.declared.declared.Declared.{Declared}
use Rattle.ld_globals.specs.declared.key_number.KeyNumber.{KeyNumber}
use Rattle.ld_globals.proofs.Looked.{all-there, lookup-mapped, place-tells}

module _ (declared : List (Roomy × Declared)) (persons : List (List ℕ)) (distinct : IsNumbering declared persons) where
  person-tells : (person : Option (List ℕ)) (p q : Option ℕ) → IsPersonNumber persons person p → IsNumbered persons q → option_eq nat_eq p q ≡ option_eq bytes_eq person (key_of declared persons (record { uri = 0; person = q })).person
  person-tells None None None is there = refl
  person-tells None None (Some q) is there = refl
  person-tells None (Some p) q is there = elim is [ ]
  person-tells (Some text) None q is there = elim is [ ]
  person-tells (Some text) (Some p) None is there = refl
  person-tells (Some text) (Some p) (Some q) is there = rw (there.1) (place-tells (λ t. t) persons p q text there.0 distinct.1 is there.1)

  -- Numbers are one where keys are.
  pub numbers-tell : (key : Key) (k : KeyNumber) (e : KeyNumber × Cell) → IsNumberOf declared persons key k → IsCell declared persons e → same_number k e.0 ≡ same_key key (key_of declared persons e.0)
  numbers-tell key k e number cell =
      let at = slice_get-map (λ d. d.0) declared k.uri ∙ ap (option_map (λ d. d.0)) number.uri.there in
      let there = slice_get-map (λ d. d.0) declared e.0.uri ∙ ap (option_map (λ d. d.0)) cell.there in
      let uri = place-tells (λ t. t.bytes) (keys_of declared) k.uri e.0.uri number.uri.entry.0 cell.entry.0 distinct.0 at there in
      let same = (bytes_decides key.uri number.uri.entry.0.bytes).0 number.uri.same in
      rw (cell.there, uri, same, person-tells key.person k.person e.0.person number.person cell.person) refl

  pub written-found : (eq : KeyNumber → KeyNumber → Bool) → ((a b : KeyNumber) → eq a b ≡ same_number a b) → (key : Key) (k : KeyNumber) (cells : List (KeyNumber × Cell)) → IsNumberOf declared persons key k → AllByRecursion (IsCell declared persons) cells
      → lookup (same_key key) (map (written_of declared persons) cells) ≡ option_map write_of (lookup (eq k) cells)
  written-found eq is key k cells number all = lookup-mapped (λ e. key_of declared persons e.0) write_of (same_key key) (eq k) cells (tell cells all)
    where
      tell : (es : List (KeyNumber × Cell)) → AllByRecursion (IsCell declared persons) es → AllByRecursion (λ e. eq k e.0 ≡ same_key key (key_of declared persons e.0)) es
      tell [] all = tt
      tell (e ∷ es) all = (is k e.0 ∙ numbers-tell key k e number all.0, tell es all.1)

  never : (b c : Bool) → c ≡ false → (b && c) ≡ false
  never true c is = is
  never false c is = refl

  other-person : (person : Option (List ℕ)) (q : Option ℕ) → IsUnknown persons person → IsNumbered persons q → option_eq bytes_eq person (key_of declared persons (record { uri = 0; person = q })).person ≡ false
  other-person None q unknown there = absurd unknown
  other-person (Some text) None unknown there = refl
  other-person (Some text) (Some q) unknown there = rw (there.1) (all-there (λ other. bytes_eq text other ≡ false) persons q there.0 unknown there.1)

  -- A person that has no number has written nothing.
  pub written-unknown : (key : Key) (cells : List (KeyNumber × Cell)) → IsUnknown persons key.person → AllByRecursion (IsCell declared persons) cells → lookup (same_key key) (map (written_of declared persons) cells) ≡ None
  written-unknown key cells unknown all = lookup-none (same_key key) (map (written_of declared persons) cells) (each cells all)
    where
      each : (es : List (KeyNumber × Cell)) → AllByRecursion (IsCell declared persons) es → AllByRecursion (λ w. same_key key w.0 ≡ false) (map (written_of declared persons) es)
      each [] all = tt
      each (e ∷ es) all = (never (bytes_eq key.uri (key_of declared persons e.0).uri) (option_eq bytes_eq key.person (key_of declared persons e.0).person) (other-person key.person e.0.person unknown all.0.person), each es all.1)
