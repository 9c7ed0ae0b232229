-- The values of the store once one key is set.
use Rattle.std.proofs.Common.{◌≡◌, ℕ, List, [], ◌∷◌, Option, None, Some, Bool, true, false, cond, if◌then◌else◌, refl, sym, ap, subst, ◌∙◌, true≢false}
use Rattle.std.proofs.lemmas.Bool.{and_parts}
use Rattle.std.proofs.lemmas.Slice.Eq.{bytes_eq-Decides}
use Rattle.std.specs.Map.{lookup}
use Rattle.std.specs.Option.{option_eq}
use Rattle.std.specs.Str.{bytes_eq}
use Rattle.indexmap.specs.IndexMap.{insert_entry}
use Rattle.ld_value.specs.Datum.{Datum, same_datum}
use Rattle.ld_globals.specs.Store.{Key, KeepsWrites, Store, Write, declared_at, key_at, last_write, next_stamp, put_in, same_key, value_after, value_at}
use Rattle.ld_globals.proofs.Keeping.{keeps-same}
use Rattle.ld_sharing.specs.StoreView.{values_of}
use Rattle.ld_world.specs.World.{put_value}
use Rattle.ld_world.proofs.Alike.{one_value}

-- ---- keys

one_person : (a b : Option (List ℕ)) → option_eq bytes_eq a b ≡ true → a ≡ b
one_person None None is = refl
one_person (Some x) (Some y) is = ap Some ((bytes_eq-Decides x y).0 is)
one_person None (Some y) is = cc
one_person (Some x) None is = cc

one_key : (a b : Key) → same_key a b ≡ true → a ≡ b
one_key a b is =
    let parts = and_parts (bytes_eq a.uri b.uri) (option_eq bytes_eq a.person b.person) is in
    let uri = (bytes_eq-Decides a.uri b.uri).0 parts.0 in
    let person = one_person a.person b.person parts.1 in
    λ i. record { uri = uri i; person = person i }

-- The key that is looked for among entries in which another is put.
found_put : (q k : Key) (v : Write) (es : List (Key × Write)) → lookup (same_key q) (insert_entry same_key es k v) ≡ cond (same_key q k) (Some v) (lookup (same_key q) es)
found_put q k v [] = refl
found_put q k v (e ∷ es) = by (same_key k e.0) refl (same_key q e.0) refl (same_key q k) refl (found_put q k v es)
  where
    by : (a : Bool) → same_key k e.0 ≡ a → (b : Bool) → same_key q e.0 ≡ b → (c : Bool) → same_key q k ≡ c
        → lookup (same_key q) (insert_entry same_key es k v) ≡ cond (same_key q k) (Some v) (lookup (same_key q) es)
        → lookup (same_key q) (cond a ((e.0, v) ∷ es) (e ∷ insert_entry same_key es k v)) ≡ cond c (Some v) (cond b (Some e.1) (lookup (same_key q) es))
    by true a true b true c rest = rw b refl
    by true a false b false c rest = rw b refl
    by true a true b false c rest = absurd (true≢false (sym b ∙ ap (same_key q) (sym (one_key k e.0 a)) ∙ c))
    by true a false b true c rest = absurd (true≢false (sym c ∙ ap (same_key q) (one_key k e.0 a) ∙ b))
    by false a true b true c rest = absurd (true≢false (sym b ∙ ap (λ x. same_key x e.0) (one_key q k c) ∙ a))
    by false a true b false c rest = rw b refl
    by false a false b c is rest = rw b (rest ∙ ap (λ d. cond d (Some v) (lookup (same_key q) es)) is)

-- ---- the store

-- What is declared stays.
pub put_declares : (store : Store) (key : Key) (value : Option Datum) → (put_in store key value).declared ≡ store.declared
unfolding put_in
put_declares store key value = by (option_eq same_datum (value_at store key) value)
  where
    after : Store
    after = record store { written = insert_entry same_key store.written key (record { value = value; number = next_stamp store.stamp }); stamp = next_stamp store.stamp }

    by : (b : Bool) → (if b then store else after).declared ≡ store.declared
    by true = refl
    by false = refl

put_value_at : (store : Store) (key q : Key) (value : Datum) → value_at (put_in store key (Some value)) q ≡ (if same_key q key then Some value else value_at store q)
unfolding put_in
put_value_at store key q value = by (option_eq same_datum (value_at store key) (Some value)) refl
  where
    write : Write
    write = record { value = Some value; number = next_stamp store.stamp }

    after : Store
    after = record store { written = insert_entry same_key store.written key write; stamp = next_stamp store.stamp }

    chosen : (c : Bool) → value_after (declared_at store q.uri) (cond c (Some write) (last_write store q)) ≡ (if c then Some value else value_at store q)
    chosen true = refl
    chosen false = refl

    kept : (c : Bool) → same_key q key ≡ c → value_at store key ≡ Some value → value_at store q ≡ (if c then Some value else value_at store q)
    kept true same was = ap (value_at store) (one_key q key same) ∙ was
    kept false other was = refl

    by : (b : Bool) → option_eq same_datum (value_at store key) (Some value) ≡ b → value_at (if b then store else after) q ≡ (if same_key q key then Some value else value_at store q)
    by true same = kept (same_key q key) refl ((one_value (value_at store key) (Some value)).0 same)
    by false other = ap (value_after (declared_at store q.uri)) (found_put q key write store.written) ∙ chosen (same_key q key)

-- A value that is put is that of its key alone.
pub put_values : (store : Store) (uri : List ℕ) (person : Option (List ℕ)) (value : Datum)
    → values_of (put_in store (key_at uri person) (Some value)) ≡ put_value (values_of store) uri person value
put_values store uri person value = λ i u p. put_value_at store (key_at uri person) (key_at u p) value i

-- ---- who kept a stamp

-- A store that stays as it was loses nothing.
pub keeps_unchanged : (old new : Store) → new ≡ old → KeepsWrites old new
keeps_unchanged old new same = subst (KeepsWrites old) (sym same) (keeps-same old)
