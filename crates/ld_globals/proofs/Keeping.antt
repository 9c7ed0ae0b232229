-- Whoever kept a stamp learns of each later write.
use Rattle.std.proofs.Common.{◌≡◌, ◌≢◌, ℕ, ◌<◌, ◌≤◌, List, [], ◌∷◌, ◌++◌, Bool, true, false, cond, ◌||◌, ◌==◌, nat_lt, is_some, if◌then◌else◌, Option, Some, refl, sym, ap, subst, ◌∙◌, arith}
use Rattle.std.proofs.lemmas.Bool.{eq-eqb, lt-ltb, true≢false}
use Rattle.std.specs.List.{fold}
use Rattle.std.specs.Map.{lookup}
use Rattle.std.specs.Option.{option_eq}
use Rattle.std.specs.Str.{bytes_eq}
use Rattle.indexmap.specs.IndexMap.{insert_entry}
use Rattle.ld_value.specs.Datum.{Datum, same_datum}
use Rattle.ld_globals.specs.Declarations.{Declaration}
use Rattle.ld_globals.specs.Store.{Key, KeepsWrites, Store, Write, comes_after, declare_in, declared_in, is_since, last_stamp, next_stamp, put_in, reserve_in, same_key, value_after, value_at, with_declared}
use Rattle.ld_globals.proofs.Since.{keys-equal}

module _ (q k : Key) (v : Write) where
  found-inserted : (es : List (Key × Write)) → lookup (same_key q) (insert_entry same_key es k v) ≡ cond (same_key q k) (Some v) (lookup (same_key q) es)
  found-inserted [] = refl
  found-inserted (e ∷ es) = by (found-inserted es) (same_key k e.0) refl (same_key q e.0) refl (same_key q k) refl
    where
      by : lookup (same_key q) (insert_entry same_key es k v) ≡ cond (same_key q k) (Some v) (lookup (same_key q) es)
          → (a : Bool) → same_key k e.0 ≡ a → (b : Bool) → same_key q e.0 ≡ b → (c : Bool) → same_key q k ≡ c
          → lookup (same_key q) (cond a ((e.0, v) ∷ es) (e ∷ insert_entry same_key es k v)) ≡ cond c (Some v) (cond b (Some e.1) (lookup (same_key q) es))
      by on true a true b true c = rw (b) refl
      by on true a false b false c = rw (b) refl
      by on true a true b false c = absurd (true≢false (sym b ∙ ap (same_key q) (sym (keys-equal k e.0 a)) ∙ c))
      by on true a false b true c = absurd (true≢false (sym c ∙ ap (same_key q) (keys-equal k e.0 a) ∙ b))
      by on false a true b true c = absurd (true≢false (sym b ∙ ap (λ x. same_key x e.0) (keys-equal q k c) ∙ a))
      by on false a true b false c = rw (b) refl
      by on false a false b true c = rw (b) (on ∙ ap (λ d. cond d (Some v) (lookup (same_key q) es)) c)
      by on false a false b false c = rw (b) (on ∙ ap (λ d. cond d (Some v) (lookup (same_key q) es)) c)

-- The next write comes after each stamp so far.
next-comes : (since stamp : ℕ) (w : Write) → stamp ≤ last_stamp → since ≤ stamp → w.number ≡ next_stamp stamp → comes_after since w ≡ true
next-comes since stamp w most before is = by (since == last_stamp) refl
  where
    by : (b : Bool) → (since == last_stamp) ≡ b → (b || nat_lt since w.number) ≡ true
    by true last = refl
    by false other = lt-ltb since w.number (below (λ same. true≢false (sym (eq-eqb since last_stamp same) ∙ other)))
      where
        below : since ≢ last_stamp → since < w.number
        below other = omega (arith, most, before, is, other)

module _ (store : Store) where
  pub keeps-same : KeepsWrites store store
  keeps-same = record { stamp = omega arith; written = λ since key before was. was; changed = λ since key before declared other. absurd (other refl) }

  pub keeps-put : (key : Key) (value : Option Datum) → store.stamp ≤ last_stamp → KeepsWrites store (put_in store key value)
  unfolding put_in
  keeps-put key value most = by (option_eq same_datum (value_at store key) value) keeps-same
    where
      write : Write
      write = record { value = value; number = next_stamp store.stamp }

      after : Store
      after = record store { written = insert_entry same_key store.written key write; stamp = next_stamp store.stamp }

      comes : (since : ℕ) → since ≤ store.stamp → comes_after since write ≡ true
      comes since before = next-comes since store.stamp write most before refl

      kept : (since : ℕ) (q : Key) → since ≤ store.stamp → (b : Bool) → is_since since (lookup (same_key q) store.written) ≡ true → is_since since (cond b (Some write) (lookup (same_key q) store.written)) ≡ true
      kept since q before true was = comes since before
      kept since q before false was = was

      new : (since : ℕ) (q : Key) → since ≤ store.stamp → (b : Bool) → value_after (declared_in store.declared q.uri) (cond b (Some write) (lookup (same_key q) store.written)) ≢ value_at store q → is_since since (cond b (Some write) (lookup (same_key q) store.written)) ≡ true
      new since q before true other = comes since before
      new since q before false other = absurd (other refl)

      keeps : KeepsWrites store after
      keeps = record {
        stamp = omega (arith, most);
        written = λ since q before was. ap (is_since since) (found-inserted q key write store.written) ∙ kept since q before (same_key q key) was;
        changed = λ since q before declared other. ap (is_since since) (found-inserted q key write store.written) ∙ new since q before (same_key q key) (λ same. other (ap (value_after (declared_in store.declared q.uri)) (found-inserted q key write store.written) ∙ same));
      }

      by : (b : Bool) → KeepsWrites store store → KeepsWrites store (if b then store else after)
      by true same = same
      by false same = keeps

found-on : (uri : List ℕ) (ds more : List (List ℕ × Declaration)) → is_some (declared_in ds uri) ≡ true → declared_in (ds ++ more) uri ≡ declared_in ds uri
found-on uri [] more some = cc
found-on uri (d ∷ ds) more some = by (found-on uri ds more) (bytes_eq uri d.0) some
  where
    by : (is_some (declared_in ds uri) ≡ true → declared_in (ds ++ more) uri ≡ declared_in ds uri) → (b : Bool) → is_some (cond b (Some d.1) (declared_in ds uri)) ≡ true → cond b (Some d.1) (declared_in (ds ++ more) uri) ≡ cond b (Some d.1) (declared_in ds uri)
    by on true some = refl
    by on false some = on some

with-keeps : (uri : List ℕ) (ds : List (List ℕ × Declaration)) (p : List ℕ × Declaration) → is_some (declared_in ds uri) ≡ true → declared_in (with_declared ds p) uri ≡ declared_in ds uri
with-keeps uri ds p some = by (is_some (declared_in ds p.0))
  where
    by : (b : Bool) → declared_in (if b then ds else ds ++ p ∷ []) uri ≡ declared_in ds uri
    by true = refl
    by false = found-on uri ds (p ∷ []) some

declared-on : (uri : List ℕ) (pairs ds : List (List ℕ × Declaration)) → is_some (declared_in ds uri) ≡ true → declared_in (fold with_declared ds pairs) uri ≡ declared_in ds uri
declared-on uri [] ds some = refl
declared-on uri (p ∷ pairs) ds some =
    let one = with-keeps uri ds p some in
    declared-on uri pairs (with_declared ds p) (ap is_some one ∙ some) ∙ one

pub keeps-declared : (store : Store) (pairs : List (List ℕ × Declaration)) → KeepsWrites store (declare_in store pairs)
keeps-declared store pairs = record {
  stamp = omega arith;
  written = λ since key before was. was;
  changed = λ since key before declared other. absurd (other (ap (λ d. value_after d (lookup (same_key key) store.written)) (declared-on key.uri pairs store.declared declared)));
}

pub keeps-reserved : (old new : Store) (n : ℕ) → new ≡ reserve_in old n → KeepsWrites old new
keeps-reserved old new n is = subst (KeepsWrites old) (sym is) (record { stamp = omega arith; written = λ since key before was. was; changed = λ since key before declared other. absurd (other refl) })
