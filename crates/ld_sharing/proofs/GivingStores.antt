-- What writes leave of a store.
use Rattle.std.proofs.Common.{◌≡◌, ◌≢◌, ℕ, ◌≤◌, List, [], ◌∷◌, Bool, true, false, cond, is_some, IsTrue, Option, Some, refl, sym, ap, subst, ◌∙◌, le_trans}
use Rattle.std.proofs.lemmas.Bool.{true≢false}
use Rattle.std.specs.Map.{lookup}
use Rattle.std.specs.Option.{option_eq}
use Rattle.indexmap.specs.IndexMap.{insert_entry}
use Rattle.ld_value.specs.Datum.{Datum, same_datum}
use Rattle.ld_globals.specs.Store.{IsWritable, Key, KeepsWrites, Store, Write, declared_at, declared_in, key_at, next_stamp, put_in, same_key, value_after, value_at, written_since}
use Rattle.ld_globals.proofs.Since.{keys-equal}
use Rattle.ld_globals.proofs.Written.{put-same, put-other}
use Rattle.ld_state.proofs.SameCells.{one_value}
use Rattle.ld_sharing.specs.StoreView.{values_of}
use Rattle.ld_sharing.specs.Writes.{with_shared_value}

-- The last write of a key, once another has been made.
module _ (q k : Key) (v : Write) where
  found_inserted : (es : List (Key × Write))
      → lookup (same_key q) (insert_entry same_key es k v) ≡ cond (same_key q k) (Some v) (lookup (same_key q) es)
  found_inserted [] = refl
  found_inserted (e ∷ es) = by (found_inserted es) (same_key k e.0) refl (same_key q k) refl (same_key q e.0) refl
    where
      before : Option Write
      before = lookup (same_key q) es

      by : lookup (same_key q) (insert_entry same_key es k v) ≡ cond (same_key q k) (Some v) before
          → (a : Bool) → same_key k e.0 ≡ a → (b : Bool) → same_key q k ≡ b → (c : Bool) → same_key q e.0 ≡ c
          → lookup (same_key q) (cond a ((e.0, v) ∷ es) (e ∷ insert_entry same_key es k v))
          ≡ cond b (Some v) (cond c (Some e.1) before)
      by rest true a true b true c = rw (c) refl
      by rest true a false b false c = rw (c) refl
      by rest true a true b false c = absurd (true≢false (sym b ∙ ap (same_key q) (keys-equal k e.0 a) ∙ c))
      by rest true a false b true c = absurd (true≢false (sym c ∙ ap (same_key q) (sym (keys-equal k e.0 a)) ∙ b))
      by rest false a true b true c =
          absurd (true≢false (sym c ∙ ap (λ x. same_key x e.0) (keys-equal q k b) ∙ a))
      by rest false a true b false c = rw (c) (rest ∙ ap (λ d. cond d (Some v) before) b)
      by rest false a false b true c = rw (c) refl
      by rest false a false b false c = rw (c) (rest ∙ ap (λ d. cond d (Some v) before) b)

-- ---- values

-- The store's values after the key is given one.
module _ (store : Store) (key : Key) (value : Option Datum) where
  value_put : (q : Key) → value_at (put_in store key value) q ≡ cond (same_key q key) value (value_at store q)
  value_put q = by (option_eq same_datum (value_at store key) value) refl
    where
      write : Write
      write = record { value = value; number = next_stamp store.stamp }

      same : (b : Bool) → same_key q key ≡ b → value_at store key ≡ value → value_at store q ≡ cond b value (value_at store q)
      same true is has = ap (value_at store) (keys-equal q key is) ∙ has
      same false is has = refl

      other : (b : Bool) → value_after (declared_at store q.uri) (cond b (Some write) (lookup (same_key q) store.written)) ≡ cond b value (value_at store q)
      other true = refl
      other false = refl

      by : (b : Bool) → option_eq same_datum (value_at store key) value ≡ b
          → value_at (put_in store key value) q ≡ cond (same_key q key) value (value_at store q)
      by true is =
          ap (λ s. value_at s q) (put-same store key value is)
          ∙ same (same_key q key) refl (one_value (value_at store key) value is)
      by false is =
          ap (λ s. value_at s q) (put-other store key value is)
          ∙ ap (value_after (declared_at store q.uri)) (found_inserted q key write store.written)
          ∙ other (same_key q key)

  pub values_put : values_of (put_in store key value) ≡ with_shared_value (values_of store) key.uri key.person value
  values_put = λ i u p. value_put (key_at u p) i

  pub put_declared : (put_in store key value).declared ≡ store.declared
  put_declared = by (option_eq same_datum (value_at store key) value) refl
    where
      by : (b : Bool) → option_eq same_datum (value_at store key) value ≡ b → (put_in store key value).declared ≡ store.declared
      by true is = ap (λ s. s.declared) (put-same store key value is)
      by false is = ap (λ s. s.declared) (put-other store key value is)

  pub put_spare : (put_in store key value).spare ≡ store.spare
  put_spare = by (option_eq same_datum (value_at store key) value) refl
    where
      by : (b : Bool) → option_eq same_datum (value_at store key) value ≡ b → (put_in store key value).spare ≡ store.spare
      by true is = ap (λ s. s.spare) (put-same store key value is)
      by false is = ap (λ s. s.spare) (put-other store key value is)

-- ---- who kept a stamp

-- Over two changes of the store, the first of which keeps its declarations.
pub keeps_on : (a b c : Store) → b.declared ≡ a.declared → KeepsWrites a b → KeepsWrites b c → KeepsWrites a c
keeps_on a b c declared first second = record {
  stamp = le_trans first.stamp second.stamp;
  written = λ since key before was.
      second.written since key (le_trans before first.stamp) (first.written since key before was);
  changed = λ since key before known other. by since key before known other (written_since b since key) refl;
}
  where
    by : (since : ℕ) (key : Key) → since ≤ a.stamp → IsTrue (is_some (declared_at a key.uri))
        → value_at c key ≢ value_at a key → (was : Bool) → written_since b since key ≡ was
        → IsTrue (written_since c since key)
    by since key before known other true is = second.written since key (le_trans before first.stamp) is
    by since key before known other false is =
        second.changed since key (le_trans before first.stamp)
        (subst (λ pairs. IsTrue (is_some (declared_in pairs key.uri))) (sym declared) known)
        (λ equal. true≢false (sym (first.changed since key before known (λ same. other (equal ∙ same))) ∙ is))

-- ---- what the store may take

-- Only the declarations tell what it may take.
pub writable_still : (old new : Store) → new.declared ≡ old.declared → (key : Key) (value : Option Datum)
    → IsWritable old key value → IsWritable new key value
writable_still old new same key value may = record {
  declaration = may.declaration;
  declared = ap (λ pairs. declared_in pairs key.uri) same ∙ may.declared;
  suited = may.suited;
  fitting = may.fitting;
}
