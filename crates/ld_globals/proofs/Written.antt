-- What a write leaves, part by part.
use Rattle.std.proofs.Common.{◌≡◌, ◌≢◌, ℕ, zero, suc, ◌+◌, ◌<◌, ◌≤◌, List, [], ◌∷◌, ◌++◌, length, map, position, slice_get, IfSome, Bool, true, false, cond, not, nat_eq, is_some, IsTrue, Option, Some, None, option_map, refl, sym, ap, subst, ◌∙◌, arith}
use Rattle.std.proofs.lemmas.Bool.{and_parts, eqb-true, eq-eqb, true≢false}
use Rattle.std.proofs.lemmas.Option.{slice_get-map}
use Rattle.std.specs.Cmp.Lexicographic.{bytes_decides}
use Rattle.std.specs.List.{AllByRecursion, position_or_len}
use Rattle.std.specs.Map.{keys_of, lookup}
use Rattle.std.specs.Option.{option_eq}
use Rattle.std.specs.Str.{bytes_eq}
use Rattle.indexmap.specs.IndexMap.{insert_entry, set_value_at}
use Rattle.indexmap.proofs.MapLemmas.{Found-position, Missing-position, insert_entry-first}
use Rattle.ld_base.specs.Roomy.{Roomy}
use Rattle.ld_value.specs.Datum.{Datum, datum_of, same_datum}
use Rattle.ld_globals.specs.Declarations.{Declaration, declaration_of, fits_declared, suits}
use Rattle.ld_globals.specs.Kept.{uri_and_declaration, IsCell, IsCounted, IsNumbered, IsNumbering, IsNumberOf, IsPersonNumber, IsTied, IsUnknown, IsUriNumber, datum_in, datum_of_cell, key_of, slot_of_key, store_of, write_number_in, same_number, write_of, written_of}
use Rattle.ld_globals.specs.Store.{Key, Store, declared_in, key_at, next_stamp, put_in, same_key, value_at}
use Rattle.ld_globals.specs.declared.cell.Cell.{Cell}
use Rattle.ld_globals.specs.declared.declared.Declared.{Declared}
use Rattle.ld_globals.specs.declared.key_number.KeyNumber.{KeyNumber}
use Rattle.ld_globals.proofs.Looked.{all-there, declared-found}
use Rattle.ld_globals.proofs.Getting.{value-initial, value-written}
use Rattle.ld_globals.proofs.Numbers.{numbers-tell, written-found, written-unknown}
use Rattle.ld_globals.proofs.Recent.{all-weaker}

-- ---- a list of entries after one is inserted

module _ {K X : Type 0} (eq : K → K → Bool) (k : K) (v : X) where
  pub all-inserted : (P : K × X → Type 0) (es : List (K × X)) → ((e : K × X) → eq k e.0 ≡ true → P e → P (e.0, v)) → P (k, v) → AllByRecursion P es → AllByRecursion P (insert_entry eq es k v)
  all-inserted P [] same new all = (new, tt)
  all-inserted P (e ∷ es) same new all = by (all-inserted P es same new all.1) (eq k e.0) refl
    where
      by : AllByRecursion P (insert_entry eq es k v) → (b : Bool) → eq k e.0 ≡ b → AllByRecursion P (cond b ((e.0, v) ∷ es) (e ∷ insert_entry eq es k v))
      by on true is = (same e is all.0, all.1)
      by on false is = (all.0, on)

  pub inserted-there : (es : List (K × X)) → (q : K) × (slice_get (insert_entry eq es k v) (position_or_len (eq k) (keys_of es)) ≡ Some (q, v))
  inserted-there [] = (k, refl)
  inserted-there (e ∷ es) = by (inserted-there es) (eq k e.0)
    where
      by : (q : K) × (slice_get (insert_entry eq es k v) (position_or_len (eq k) (keys_of es)) ≡ Some (q, v)) → (b : Bool)
          → (q : K) × (slice_get (cond b ((e.0, v) ∷ es) (e ∷ insert_entry eq es k v)) (cond (not b) (1 + position_or_len (eq k) (keys_of es)) 0) ≡ Some (q, v))
      by on true = (e.0, refl)
      by on false = let one : 1 + position_or_len (eq k) (keys_of es) ≡ suc (position_or_len (eq k) (keys_of es)) = omega arith in (on.0, rw (one) on.1)

  pub inserted-other : (es : List (K × X)) (i : ℕ) → i ≢ position_or_len (eq k) (keys_of es) → slice_get (insert_entry eq es k v) i ≡ slice_get es i
  inserted-other [] zero other = absurd (other refl)
  inserted-other [] (suc i) other = refl
  inserted-other (e ∷ es) i other = by (inserted-other es) (eq k e.0) i other
    where
      by : ((j : ℕ) → j ≢ position_or_len (eq k) (keys_of es) → slice_get (insert_entry eq es k v) j ≡ slice_get es j) → (b : Bool) (i : ℕ)
          → i ≢ cond (not b) (1 + position_or_len (eq k) (keys_of es)) 0 → slice_get (cond b ((e.0, v) ∷ es) (e ∷ insert_entry eq es k v)) i ≡ slice_get (e ∷ es) i
      by on true zero other = absurd (other refl)
      by on true (suc i) other = refl
      by on false zero other = refl
      by on false (suc i) other = let one : suc (position_or_len (eq k) (keys_of es)) ≡ 1 + position_or_len (eq k) (keys_of es) = omega arith in on i (λ same. other (ap suc same ∙ one))

-- Entries that are mapped before and after.
pub mapped-inserted : {K X L Y : Type 0} (f : K → L) (g : X → Y) (eq : K → K → Bool) (eq' : L → L → Bool) (k : K) (v : X) (key : L) (es : List (K × X))
    → f k ≡ key → AllByRecursion (λ e. eq k e.0 ≡ eq' key (f e.0)) es
    → map (λ e. (f e.0, g e.1)) (insert_entry eq es k v) ≡ insert_entry eq' (map (λ e. (f e.0, g e.1)) es) key (g v)
mapped-inserted f g eq eq' k v key [] is alike = ap (λ l. (l, g v) ∷ []) is
mapped-inserted f g eq eq' k v key (e ∷ es) is alike = by (mapped-inserted f g eq eq' k v key es is alike.1) (eq k e.0) (eq' key (f e.0)) alike.0
  where
    by : map (λ e. (f e.0, g e.1)) (insert_entry eq es k v) ≡ insert_entry eq' (map (λ e. (f e.0, g e.1)) es) key (g v) → (b c : Bool) → b ≡ c
        → map (λ e. (f e.0, g e.1)) (cond b ((e.0, v) ∷ es) (e ∷ insert_entry eq es k v)) ≡ cond c ((f e.0, g v) ∷ map (λ e. (f e.0, g e.1)) es) ((f e.0, g e.1) ∷ insert_entry eq' (map (λ e. (f e.0, g e.1)) es) key (g v))
    by on true true same = refl
    by on false false same = ap (λ l. (f e.0, g e.1) ∷ l) on
    by on true false same = absurd (true≢false same)
    by on false true same = absurd (true≢false (sym same))

-- ---- numbers

person-equal : (p q : Option ℕ) → option_eq nat_eq p q ≡ true → p ≡ q
person-equal None None same = refl
person-equal (Some p) (Some q) same = ap Some (eqb-true p q same)
person-equal None (Some q) same = cc
person-equal (Some p) None same = cc

pub number-equal : (a b : KeyNumber) → same_number a b ≡ true → a ≡ b
number-equal a b same =
    let parts = and_parts (nat_eq a.uri b.uri) (option_eq nat_eq a.person b.person) same in
    let uri = eqb-true a.uri b.uri parts.0 in
    let person = person-equal a.person b.person parts.1 in
    λ i. record { uri = uri i; person = person i }

pub still-there : {X : Type 0} (xs ys : List X) (i : ℕ) (x : X) → slice_get xs i ≡ Some x → slice_get (xs ++ ys) i ≡ Some x
still-there [] ys i x there = cc
still-there (z ∷ xs) ys zero x there = there
still-there (z ∷ xs) ys (suc i) x there = still-there xs ys i x there

module _ (declared : List (Roomy × Declared)) (persons added : List (List ℕ)) where
  still-numbered : (p : Option ℕ) → IsNumbered persons p → IsNumbered (persons ++ added) p
  still-numbered None there = tt
  still-numbered (Some p) there = (there.0, still-there persons added p there.0 there.1)

  pub still-cell : (e : KeyNumber × Cell) → IsCell declared persons e → IsCell declared (persons ++ added) e
  still-cell e cell = record { entry = cell.entry; there = cell.there; person = still-numbered e.0.person cell.person; suited = cell.suited; fitting = cell.fitting }

  still-person : (p : Option ℕ) → IsNumbered persons p → (key_of declared (persons ++ added) (record { uri = 0; person = p })).person ≡ (key_of declared persons (record { uri = 0; person = p })).person
  still-person None there = refl
  still-person (Some p) there = rw (there.1, still-there persons added p there.0 there.1) refl

  -- Keys that are there mean what they meant.
  pub still-written : (cells : List (KeyNumber × Cell)) → AllByRecursion (IsCell declared persons) cells → map (written_of declared (persons ++ added)) cells ≡ map (written_of declared persons) cells
  still-written [] all = refl
  still-written (e ∷ es) all =
      let person = still-person e.0.person all.0.person in
      let rest = still-written es all.1 in
      λ i. (record { uri = (key_of declared persons e.0).uri; person = person i }, write_of e.1) ∷ rest i

-- A number is of the key that it was made for.
pub key-numbered : (declared : List (Roomy × Declared)) (persons : List (List ℕ)) (key : Key) (k : KeyNumber) → IsNumberOf declared persons key k → key_of declared persons k ≡ key
key-numbered declared persons key k number =
    let uri = sym ((bytes_decides key.uri number.uri.entry.0.bytes).0 number.uri.same) in
    let person = by key.person k.person number.person in
    rw (number.uri.there) (λ i. record { uri = uri i; person = person i })
  where
    by : (person : Option (List ℕ)) (p : Option ℕ) → IsPersonNumber persons person p → (key_of declared persons (record { uri = 0; person = p })).person ≡ person
    by None None is = refl
    by (Some text) (Some p) is = rw (is) refl
    by None (Some p) is = elim is [ ]
    by (Some text) None is = elim is [ ]

-- ---- the store after a write

module _ (declared : List (Roomy × Declared)) (persons added : List (List ℕ)) (cells : List (KeyNumber × Cell)) (key : Key) (k : KeyNumber) (c : Cell) where
  pub written-after : IsNumbering declared (persons ++ added) → IsNumberOf declared (persons ++ added) key k → AllByRecursion (IsCell declared persons) cells
      → map (written_of declared (persons ++ added)) (insert_entry same_number cells k c) ≡ insert_entry same_key (map (written_of declared persons) cells) key (write_of c)
  written-after distinct number all =
      mapped-inserted (key_of declared (persons ++ added)) write_of same_number same_key k c key cells (key-numbered declared (persons ++ added) key k number) (tell cells all)
      ∙ ap (λ ws. insert_entry same_key ws key (write_of c)) (still-written declared persons added cells all)
    where
      tell : (es : List (KeyNumber × Cell)) → AllByRecursion (IsCell declared persons) es → AllByRecursion (λ e. same_number k e.0 ≡ same_key key (key_of declared (persons ++ added) e.0)) es
      tell [] all = tt
      tell (e ∷ es) all = (numbers-tell declared (persons ++ added) distinct key k e number (still-cell declared persons added e all.0), tell es all.1)

  pub cells-after : AllByRecursion (IsCell declared persons) cells → IsCell declared (persons ++ added) (k, c) → AllByRecursion (IsCell declared (persons ++ added)) (insert_entry same_number cells k c)
  cells-after all new = all-inserted same_number k c (IsCell declared (persons ++ added)) cells (λ e same was. subst (λ q. IsCell declared (persons ++ added) (q, c)) (number-equal k e.0 same) new) new (all-weaker cells (still-cell declared persons added) all)

  pub counted-after : (stamp next : ℕ) → stamp ≤ next → (0 < c.number) × (c.number ≤ next) → AllByRecursion (IsCounted stamp) cells → AllByRecursion (IsCounted next) (insert_entry same_number cells k c)
  counted-after stamp next more new all = all-inserted same_number k c (IsCounted next) cells (λ e same was. new) new (all-weaker cells (λ e was. (was.0, (let less = was.1 in omega (arith, less, more)))) all)

  pub tied-after : (es : List (ℕ × ℕ)) → AllByRecursion (IsTied cells) es → AllByRecursion (λ e. nat_eq (position_or_len (same_number k) (keys_of cells)) e.0 ≡ false) es → AllByRecursion (IsTied (insert_entry same_number cells k c)) es
  tied-after [] tied others = tt
  tied-after (e ∷ es) tied others =
      let other : e.0 ≢ position_or_len (same_number k) (keys_of cells) = λ same. true≢false (sym (eq-eqb (position_or_len (same_number k) (keys_of cells)) e.0 (sym same)) ∙ others.0) in
      (tied.0 ∙ sym (ap write_number_in (inserted-other same_number k c cells e.0 other)), tied-after es tied.1 others.1)

  pub tied-first : IsTied (insert_entry same_number cells k c) (position_or_len (same_number k) (keys_of cells), c.number)
  tied-first = let there = inserted-there same_number k c cells in sym (ap write_number_in there.1)

-- All numbers of slots are of writes of the store.
pub numbers-counted : (cells : List (KeyNumber × Cell)) (stamp next : ℕ) → stamp ≤ next → AllByRecursion (IsCounted stamp) cells → (es : List (ℕ × ℕ)) → AllByRecursion (IsTied cells) es → AllByRecursion (λ e. e.1 ≤ next) es
numbers-counted cells stamp next more counted [] tied = tt
numbers-counted cells stamp next more counted (e ∷ es) tied = (subst (λ n. n ≤ next) (sym tied.0) (below (slice_get cells e.0) (λ c there. all-there (IsCounted stamp) cells e.0 c counted there)), numbers-counted cells stamp next more counted es tied.1)
  where
    below : (c : Option (KeyNumber × Cell)) → ((d : KeyNumber × Cell) → c ≡ Some d → IsCounted stamp d) → write_number_in c ≤ next
    below None each = omega arith
    below (Some d) each = let less = (each d refl).1 in omega (arith, less, more)

-- ---- the cell of a slot

module _ (cells : List (KeyNumber × Cell)) (k : KeyNumber) (slot : ℕ) (at : position (same_number k) (keys_of cells) ≡ Some slot) where
  pub slot-within : slot < length cells
  slot-within = (Found-position (same_number k) cells slot at).within

  -- To write at the slot is to insert.
  pub cell-set : (c : Cell) → set_value_at cells slot c ≡ insert_entry same_number cells k c
  cell-set c = sym (insert_entry-first same_number k c cells slot (Found-position (same_number k) cells slot at).first)

  -- The cell is the one at the slot.
  pub cell-there : lookup (same_number k) cells ≡ option_map (λ e. e.1) (slice_get cells slot)
  cell-there = (Found-position (same_number k) cells slot at).value ∙ slice_get-map (λ e. e.1) cells slot

module _ (declared : List (Roomy × Declared)) (persons : List (List ℕ)) (cells : List (KeyNumber × Cell)) (stamp spare : ℕ) (text : List ℕ) (person : Option (List ℕ)) (d : Declared)
    (distinct : IsNumbering declared persons) (all : AllByRecursion (IsCell declared persons) cells) (found : lookup (λ q. bytes_eq text q.bytes) declared ≡ Some d) where
  by-cell : (o : Option (KeyNumber × Cell)) → lookup (same_key (key_at text person)) (map (written_of declared persons) cells) ≡ option_map write_of (option_map (λ e. e.1) o)
      → value_at (store_of declared persons cells stamp spare) (key_at text person) ≡ datum_of_cell d.initial o
  by-cell None is = value-initial declared persons cells stamp spare text person d found is
  by-cell (Some e) is = value-written declared persons cells stamp spare text person d found (write_of e.1) is

  -- The value of the key is what its cell has, where it has one, and else the initial value.
  pub value-kept : (uri : ℕ) (known : Option (Option ℕ)) → IsUriNumber declared text uri → IfSome known (IsPersonNumber persons person) → (known ≡ None → IsUnknown persons person)
      → value_at (store_of declared persons cells stamp spare) (key_at text person) ≡ datum_in d.initial cells (slot_of_key cells uri known)
  value-kept uri None there number unknown = by-cell None (written-unknown declared persons distinct (key_at text person) cells (unknown refl) all)
  value-kept uri (Some p) there number unknown = by (position (same_number k) (keys_of cells)) refl
    where
      k : KeyNumber
      k = record { uri = uri; person = p }

      is : lookup (same_key (key_at text person)) (map (written_of declared persons) cells) ≡ option_map write_of (lookup (same_number k) cells)
      is = written-found declared persons distinct same_number (λ a b. refl) (key_at text person) k cells (record { uri = there; person = number }) all

      by : (o : Option ℕ) → position (same_number k) (keys_of cells) ≡ o → value_at (store_of declared persons cells stamp spare) (key_at text person) ≡ datum_in d.initial cells o
      by None none = by-cell None (is ∙ ap (option_map write_of) (Missing-position (same_number k) cells none).value)
      by (Some slot) at = by-cell (slice_get cells slot) (is ∙ ap (option_map write_of) (cell-there cells k slot at))

-- ---- the cell of a writable key

module _ (declared : List (Roomy × Declared)) (persons : List (List ℕ)) (key : Key) (k : KeyNumber) (number : IsNumberOf declared persons key k) where
  numbered : (person : Option (List ℕ)) (p : Option ℕ) → IsPersonNumber persons person p → IsNumbered persons p × (is_some p ≡ is_some person)
  numbered None None is = (tt, refl)
  numbered (Some text) (Some p) is = ((text, is), refl)
  numbered None (Some p) is = elim is [ ]
  numbered (Some text) None is = elim is [ ]

  pub new-cell : (c : Cell) (d : Declaration) → declaration_of number.uri.entry.1 ≡ d → IsTrue (suits d.kind (is_some key.person)) → IsTrue (fits_declared d (option_map datum_of c.value)) → IsCell declared persons (k, c)
  new-cell c d is suited fitting =
      let person = numbered key.person k.person number.person in
      record { entry = number.uri.entry; there = number.uri.there; person = person.0; suited = subst (λ b. IsTrue (suits number.uri.entry.1.kind b)) (sym person.1) (subst (λ t. IsTrue (suits t.kind (is_some key.person))) (sym is) suited); fitting = subst (λ t. IsTrue (fits_declared t (option_map datum_of c.value))) (sym is) fitting }

-- How a uri is declared tells the entry that declares it.
pub declaring : (es : List (Roomy × Declared)) (uri : List ℕ) (d : Declaration) → declared_in (map uri_and_declaration es) uri ≡ Some d → (e : Declared) × (lookup (λ k. bytes_eq uri k.bytes) es ≡ Some e)
declaring es uri d is = by (lookup (λ k. bytes_eq uri k.bytes) es) refl (sym (declared-found es uri) ∙ is)
  where
    by : (o : Option Declared) → lookup (λ k. bytes_eq uri k.bytes) es ≡ o → option_map declaration_of (lookup (λ k. bytes_eq uri k.bytes) es) ≡ Some d → (e : Declared) × (lookup (λ k. bytes_eq uri k.bytes) es ≡ Some e)
    by None found is = let none : None ≡ Some d = sym (ap (option_map declaration_of) found) ∙ is in cc
    by (Some e) found is = (e, found)

pub declaration-is : (es : List (Roomy × Declared)) (uri : List ℕ) (d : Declaration) (e : Declared) → declared_in (map uri_and_declaration es) uri ≡ Some d → lookup (λ k. bytes_eq uri k.bytes) es ≡ Some e → declaration_of e ≡ d
declaration-is es uri d e is found =
    let same : Some (declaration_of e) ≡ Some d = sym (ap (option_map declaration_of) found) ∙ sym (declared-found es uri) ∙ is in
    cc

-- ---- putting a value

pub put-same : (store : Store) (key : Key) (value : Option Datum) → option_eq same_datum (value_at store key) value ≡ true → put_in store key value ≡ store
unfolding put_in
put-same store key value same = rw (same) refl

pub put-other : (store : Store) (key : Key) (value : Option Datum) → option_eq same_datum (value_at store key) value ≡ false
    → put_in store key value ≡ record store { written = insert_entry same_key store.written key (record { value = value; number = next_stamp store.stamp }); stamp = next_stamp store.stamp }
unfolding put_in
put-other store key value other = rw (other) refl
