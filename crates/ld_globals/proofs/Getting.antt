-- What `get` answers, by what was found.
use Rattle.std.proofs.Common.{◌≡◌, ℕ, List, map, true, false, is_some, Option, Some, None, Ok, Err, option_map, refl, ap, ◌∙◌}
use Rattle.std.specs.Map.{lookup}
use Rattle.std.specs.Str.{bytes_eq}
use Rattle.ld_base.specs.Roomy.{Roomy}
use Rattle.ld_value.specs.Datum.{datum_of}
use Rattle.ld_globals.specs.Declarations.{declaration_of, suits}
use Rattle.ld_globals.specs.Kept.{store_of, written_of}
use Rattle.ld_globals.specs.Store.{Write, declared_at, get_answer, get_declared, key_at, same_key, set_answer, set_declared, set_value, value_at, value_in}
use Rattle.ld_globals.specs.declared.cell.Cell.{Cell}
use Rattle.ld_globals.specs.declared.declared.Declared.{Declared}
use Rattle.ld_globals.specs.declared.faults.GlobalFault.TheVariants.{UnknownGlobal, NotAllowed}
use Rattle.ld_globals.specs.declared.faults.SetFault.TheVariants as setting
use Rattle.ld_globals.specs.declared.key_number.KeyNumber.{KeyNumber}
use Rattle.ld_globals.proofs.Looked.{declared-found}

module _ (declared : List (Roomy × Declared)) (persons : List (List ℕ)) (cells : List (KeyNumber × Cell)) (stamp spare : ℕ) (uri : List ℕ) (person : Option (List ℕ)) where
  pub get-unknown : lookup (λ k. bytes_eq uri k.bytes) declared ≡ None → Err UnknownGlobal ≡ get_answer (store_of declared persons cells stamp spare) (key_at uri person)
  get-unknown none = rw (declared-found declared uri, none) refl

  module _ (d : Declared) (found : lookup (λ k. bytes_eq uri k.bytes) declared ≡ Some d) where
    pub declared-at : declared_at (store_of declared persons cells stamp spare) uri ≡ Some (declaration_of d)
    declared-at = rw (declared-found declared uri, found) refl

    pub get-refused : suits d.kind (is_some person) ≡ false → Err NotAllowed ≡ get_answer (store_of declared persons cells stamp spare) (key_at uri person)
    get-refused wrong = rw (declared-found declared uri, found, wrong) refl

    pub value-written : (w : Write) → lookup (same_key (key_at uri person)) (map (written_of declared persons) cells) ≡ Some w → value_at (store_of declared persons cells stamp spare) (key_at uri person) ≡ w.value
    value-written w there = rw (there) refl

    pub value-initial : lookup (same_key (key_at uri person)) (map (written_of declared persons) cells) ≡ None → value_at (store_of declared persons cells stamp spare) (key_at uri person) ≡ option_map datum_of d.initial
    value-initial none = rw (none, declared-found declared uri, found) refl

    pub get-allowed : suits d.kind (is_some person) ≡ true → get_answer (store_of declared persons cells stamp spare) (key_at uri person) ≡ Ok (value_at (store_of declared persons cells stamp spare) (key_at uri person))
    get-allowed right = ap (λ r. get_declared r (store_of declared persons cells stamp spare) (key_at uri person)) declared-at ∙ rw (right) refl

  pub set-unknown : (text : List ℕ) → lookup (λ k. bytes_eq uri k.bytes) declared ≡ None → set_answer (store_of declared persons cells stamp spare) (key_at uri person) text ≡ Err setting.UnknownGlobal
  set-unknown text none = rw (declared-found declared uri, none) refl

  pub set-known : (text : List ℕ) (d : Declared) → lookup (λ k. bytes_eq uri k.bytes) declared ≡ Some d → set_answer (store_of declared persons cells stamp spare) (key_at uri person) text ≡ set_value (suits d.kind (is_some person)) (value_in (declaration_of d) text)
  set-known text d found = ap (λ r. set_declared r (key_at uri person) text) (declared-found declared uri ∙ ap (option_map declaration_of) found)
