-- What a text stands for under a declaration.
use Rattle.std.proofs.Common.{◌≡◌, List, ℕ, ◌+◌, ◌-◌, max, Bool, true, false, if◌then◌else◌, is_some, Option, Some, None, Ok, Err, refl, sym, ap, ◌∙◌, arith}
use Rattle.std.specs.Option.{option_and_then, option_eq}
use Rattle.indexmap.specs.IndexMap.{insert_entry}
use Rattle.ld_value.specs.Datum.{Datum, same_datum}
use Rattle.ld_value.specs.Values.{value_of, fits_in}
use Rattle.ld_globals.specs.Declarations.{Declaration, suits}
use Rattle.ld_globals.specs.Store.{IsWritable, Key, Store, Write, declared_at, next_stamp, put_in, reserve_in, same_key, set_answer, set_declared, set_value, spend, value_at, value_in}
use Rattle.ld_globals.specs.declared.faults.SetFault.TheVariants.{BadValue, NotAllowed}

module _ (d : Declaration) (text : List ℕ) (suited : Bool) where
  pub no-value : value_of d.datatype text ≡ None → set_value suited (value_in d text) ≡ Err BadValue
  unfolding value_in
  no-value none = rw (none) refl

  module _ (v : Datum) (is : value_of d.datatype text ≡ Some v) where
    pub misfit : fits_in d.datatype d.limits v ≡ false → set_value suited (value_in d text) ≡ Err BadValue
    unfolding value_in
    misfit wrong = rw (is, wrong) refl

    pub unsuited : fits_in d.datatype d.limits v ≡ true → suited ≡ false → set_value suited (value_in d text) ≡ Err NotAllowed
    unfolding value_in
    unsuited right wrong = rw (is, right, wrong) refl

    pub readable : fits_in d.datatype d.limits v ≡ true → suited ≡ true → set_value suited (value_in d text) ≡ Ok v
    unfolding value_in
    readable right suits = rw (is, right, suits) refl

-- ---- a value that may be set may be put

fits-read : (d : Declaration) (text : List ℕ) (v : Datum) → value_in d text ≡ Some v → fits_in d.datatype d.limits v ≡ true
unfolding value_in
fits-read d text v is = by (value_of d.datatype text) is
  where
    inner : (w : Datum) (b : Bool) → fits_in d.datatype d.limits w ≡ b → (if b then Some w else None) ≡ Some v → fits_in d.datatype d.limits v ≡ true
    inner w true fits is = let same : w ≡ v = cc in ap (fits_in d.datatype d.limits) (sym same) ∙ fits
    inner w false fits is = cc

    by : (o : Option Datum) → option_and_then (λ value. if fits_in d.datatype d.limits value then Some value else None) o ≡ Some v → fits_in d.datatype d.limits v ≡ true
    by None is = cc
    by (Some w) is = inner w (fits_in d.datatype d.limits w) refl is

allowed : (b : Bool) (o : Option Datum) (v : Datum) → set_value b o ≡ Ok v → (b ≡ true) × (o ≡ Some v)
allowed true (Some w) v is = (refl, (let same : w ≡ v = cc in ap Some same))
allowed false (Some w) v is = cc
allowed b None v is = cc

pub settable : (store : Store) (key : Key) (text : List ℕ) (v : Datum) → set_answer store key text ≡ Ok v → IsWritable store key (Some v)
settable store key text v is = by (declared_at store key.uri) refl is
  where
    by : (o : Option Declaration) → declared_at store key.uri ≡ o → set_declared o key text ≡ Ok v → IsWritable store key (Some v)
    by None at is = cc
    by (Some d) at is =
        let right = allowed (suits d.kind (is_some key.person)) (value_in d text) v is in
        record { declaration = d; declared = at; suited = right.0; fitting = fits-read d text v right.1 }

-- Room that is made and spent again leaves what a put leaves.
pub put-reserved : (store : Store) (key : Key) (value : Option Datum) → spend (put_in (reserve_in store (store.spare + 1)) key value) ≡ put_in store key value
unfolding put_in
put-reserved store key value = by (option_eq same_datum (value_at store key) value)
  where
    room : max store.spare (store.spare + 1) - 1 ≡ store.spare
    room = omega arith

    after : List (Key × Write)
    after = insert_entry same_key store.written key (record { value = value; number = next_stamp store.stamp })

    by : (b : Bool) → spend (if b then reserve_in store (store.spare + 1) else record (reserve_in store (store.spare + 1)) { written = after; stamp = next_stamp store.stamp }) ≡ (if b then store else record store { written = after; stamp = next_stamp store.stamp })
    by true = λ i. record store { spare = room i }
    by false = λ i. record store { written = after; stamp = next_stamp store.stamp; spare = room i }
