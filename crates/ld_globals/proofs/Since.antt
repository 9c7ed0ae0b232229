-- The keys that were written since some stamp.
use Rattle.std.proofs.Common.{◌≡◌, inl, inr, ℕ, zero, suc, ◌+◌, ◌<◌, ◌≤◌, List, [], ◌∷◌, map, take, length, slice_get, Contains, Bool, true, false, cond, ◌||◌, ◌==◌, if◌then◌else◌, nat_eq, nat_lt, IsSome, Option, Some, None, option_map, refl, sym, ap, subst, ◌∙◌, arith}
use Rattle.std.proofs.lemmas.Bool.{and_parts, eqb-true, eq-eqb, ltb-true, lt-ltb, true≢false}
use Rattle.std.proofs.lemmas.Option.{slice_get_within}
use Rattle.std.specs.Cmp.Lexicographic.{bytes_decides}
use Rattle.std.specs.List.{AllByRecursion, IsDistinct, prefix_len}
use Rattle.std.specs.Map.{keys_of, lookup}
use Rattle.std.specs.Option.{option_eq}
use Rattle.lru.proofs.Splits.{Contains-cons, Contains-head, Contains-nil, Contains-tail, all_at, all_from, all_map, all_unmap}
use Rattle.std.specs.Str.{bytes_eq}
use Rattle.ld_base.specs.Roomy.{Roomy}
use Rattle.ld_globals.specs.Kept.{IsCell, IsCounted, IsFilled, IsNumbered, IsNumbering, IsNumberOf, IsPersonNumber, IsTied, is_later, key_at_slot, key_in, key_of, write_number_in, same_number, person_text, entry_uri, write_of, written_of}
use Rattle.ld_globals.specs.Recent.{Falls, IsRecency}
use Rattle.ld_globals.specs.Store.{Key, Write, bound_of, comes_after, is_since, last_stamp, same_key}
use Rattle.ld_globals.specs.declared.cell.Cell.{Cell}
use Rattle.ld_globals.specs.declared.declared.Declared.{Declared}
use Rattle.ld_globals.specs.declared.key_number.KeyNumber.{KeyNumber}
use Rattle.ld_globals.proofs.Looked.{all-there}
use Rattle.ld_globals.proofs.Numbers.{numbers-tell, written-found}
use Rattle.ld_globals.proofs.Written.{number-equal}

-- ---- lists

module _ {X Y : Type 0} (f : X → Y) where
  pub mapped-in : (xs : List X) (x : X) → Contains xs x → Contains (map f xs) (f x)
  mapped-in [] x c = absurd (Contains-nil x c)
  mapped-in (z ∷ xs) x c = elim (Contains-cons z xs x c) [
    | inl same ↦ subst (λ y. Contains (f z ∷ map f xs) y) (ap f same) (Contains-head (f z) (map f xs))
    | inr on ↦ Contains-tail (f z) (map f xs) (f x) (mapped-in xs x on)
  ]

  pub in-mapped : (xs : List X) (y : Y) → Contains (map f xs) y → (x : X) × Contains xs x × (f x ≡ y)
  in-mapped [] y c = absurd (Contains-nil y c)
  in-mapped (z ∷ xs) y c = elim (Contains-cons (f z) (map f xs) y c) [
    | inl same ↦ (z, Contains-head z xs, same)
    | inr on ↦ let more = in-mapped xs y on in (more.0, Contains-tail z xs more.0 more.1, more.2)
  ]

-- ---- the uses after a bound

module _ (b : ℕ) where
  abbrev pub later : List (ℕ × ℕ) → List (ℕ × ℕ)
  later [] = []
  later (e ∷ es) = cond (is_later b e) (e ∷ later es) []

  pub taken-later : (es : List (ℕ × ℕ)) → take (prefix_len (is_later b) es) es ≡ later es
  taken-later [] = refl
  taken-later (e ∷ es) = by (taken-later es) (is_later b e)
    where
      by : take (prefix_len (is_later b) es) es ≡ later es → (c : Bool) → take (cond c (1 + prefix_len (is_later b) es) 0) (e ∷ es) ≡ cond c (e ∷ later es) []
      by on true = let one : 1 + prefix_len (is_later b) es ≡ suc (prefix_len (is_later b) es) = omega arith in rw (one) (ap (λ l. e ∷ l) on)
      by on false = refl

  pub later-fewer : (es : List (ℕ × ℕ)) → prefix_len (is_later b) es ≤ length es
  later-fewer [] = omega arith
  later-fewer (e ∷ es) = by (later-fewer es) (is_later b e)
    where
      by : prefix_len (is_later b) es ≤ length es → (c : Bool) → cond c (1 + prefix_len (is_later b) es) 0 ≤ suc (length es)
      by on true = omega (arith, on)
      by on false = omega arith

  -- Each of them is one of the list, and came after the bound.
  pub later-are : (es : List (ℕ × ℕ)) (e : ℕ × ℕ) → Contains (later es) e → Contains es e × (is_later b e ≡ true)
  later-are [] e c = absurd (Contains-nil e c)
  later-are (x ∷ es) e c = by (later-are es e) (is_later b x) refl c
    where
      by : (Contains (later es) e → Contains es e × (is_later b e ≡ true)) → (d : Bool) → is_later b x ≡ d → Contains (cond d (x ∷ later es) []) e → Contains (x ∷ es) e × (is_later b e ≡ true)
      by on true is c = elim (Contains-cons x (later es) e c) [
        | inl same ↦ (subst (Contains (x ∷ es)) same (Contains-head x es), ap (is_later b) (sym same) ∙ is)
        | inr more ↦ let rest = on more in (Contains-tail x es e rest.0, rest.1)
      ]
      by on false is c = absurd (Contains-nil e c)

  -- And each that came after it is one of them.
  pub are-later : (es : List (ℕ × ℕ)) (e : ℕ × ℕ) → Falls es → Contains es e → is_later b e ≡ true → Contains (later es) e
  are-later [] e falls c is = absurd (Contains-nil e c)
  are-later (x ∷ es) e falls c is = elim (Contains-cons x es e c) [
    | inl same ↦ rw (ap (is_later b) same ∙ is) (subst (Contains (x ∷ later es)) same (Contains-head x (later es)))
    | inr on ↦
        let low = all_at (λ f. f.1 ≤ x.1) es e falls.0 on in
        let high = ltb-true b e.1 is in
        let here : is_later b x ≡ true = lt-ltb b x.1 (omega (arith, low, high)) in
        rw (here) (Contains-tail x (later es) e (are-later es e falls.1 on is))
  ]

-- The slot of a look-up.
pub looked-in : (slot : ℕ) (es : List (ℕ × ℕ)) → IsSome (lookup (nat_eq slot) es) → (n : ℕ) × Contains es (slot, n)
looked-in slot [] some = cc
looked-in slot (e ∷ es) some = by (looked-in slot es) (nat_eq slot e.0) refl some
  where
    by : (IsSome (lookup (nat_eq slot) es) → (n : ℕ) × Contains es (slot, n)) → (b : Bool) → nat_eq slot e.0 ≡ b → IsSome (cond b (Some e.1) (lookup (nat_eq slot) es)) → (n : ℕ) × Contains (e ∷ es) (slot, n)
    by on true same some = (e.1, subst (λ s. Contains (e ∷ es) (s, e.1)) (sym (eqb-true slot e.0 same)) (Contains-head e es))
    by on false other some = let more = on some in (more.0, Contains-tail e es (slot, more.0) more.1)

-- ---- cells by their numbers

own-number : (k : KeyNumber) → same_number k k ≡ true
own-number k = rw (eq-eqb k.uri k.uri refl) (by k.person)
  where
    by : (p : Option ℕ) → option_eq nat_eq p p ≡ true
    by None = refl
    by (Some p) = eq-eqb p p refl

clash : (k : KeyNumber) (cells : List (KeyNumber × Cell)) (j : ℕ) (d : KeyNumber × Cell) → AllByRecursion (λ y. same_number k y ≡ false) (keys_of cells) → slice_get cells j ≡ Some d → k ≡ d.0 → ⊥
clash k [] j d all there same = cc
clash k (c ∷ cells) zero d all there same = let is : c ≡ d = cc in true≢false (sym (own-number k) ∙ ap (same_number k) (same ∙ ap (λ e. e.0) (sym is)) ∙ all.0)
clash k (c ∷ cells) (suc j) d all there same = clash k cells j d all.1 there same

pub one-cell : (cells : List (KeyNumber × Cell)) (i j : ℕ) (c d : KeyNumber × Cell) → IsDistinct same_number (keys_of cells) → slice_get cells i ≡ Some c → slice_get cells j ≡ Some d → c.0 ≡ d.0 → i ≡ j
unfolding IsDistinct
one-cell [] i j c d distinct at there same = cc
one-cell (e ∷ cells) zero zero c d distinct at there same = refl
one-cell (e ∷ cells) zero (suc j) c d distinct at there same = let is : e ≡ c = cc in absurd (clash e.0 cells j d distinct.0 there (ap (λ x. x.0) is ∙ same))
one-cell (e ∷ cells) (suc i) zero c d distinct at there same = let is : e ≡ d = cc in absurd (clash e.0 cells i c distinct.0 at (ap (λ x. x.0) is ∙ sym same))
one-cell (e ∷ cells) (suc i) (suc j) c d distinct at there same = ap suc (one-cell cells i j c d distinct.1 at there same)

pub own-cell : (cells : List (KeyNumber × Cell)) (i : ℕ) (c : KeyNumber × Cell) → IsDistinct same_number (keys_of cells) → slice_get cells i ≡ Some c → lookup (same_number c.0) cells ≡ Some c.1
unfolding IsDistinct
own-cell [] i c distinct at = cc
own-cell (e ∷ cells) zero c distinct at = let is : e ≡ c = cc in rw (ap (λ x. same_number c.0 x.0) is ∙ own-number c.0) (ap (λ x. Some x.1) is)
own-cell (e ∷ cells) (suc i) c distinct at = by (own-cell cells i c distinct.1 at) (same_number c.0 e.0) refl
  where
    by : lookup (same_number c.0) cells ≡ Some c.1 → (b : Bool) → same_number c.0 e.0 ≡ b → cond b (Some e.1) (lookup (same_number c.0) cells) ≡ Some c.1
    by on true same = absurd (clash e.0 cells i c distinct.0 at (sym (number-equal c.0 e.0 same)))
    by on false other = on

-- A look-up over mapped cells finds one of them.
pub found-cell : (f : KeyNumber → Key) (key : Key) (cells : List (KeyNumber × Cell)) (w : Write) → lookup (same_key key) (map (λ e. (f e.0, write_of e.1)) cells) ≡ Some w
    → (i : ℕ) × (c : KeyNumber × Cell) × (slice_get cells i ≡ Some c) × (same_key key (f c.0) ≡ true) × (write_of c.1 ≡ w)
found-cell f key [] w found = cc
found-cell f key (e ∷ cells) w found = by (found-cell f key cells w) (same_key key (f e.0)) refl found
  where
    by : (lookup (same_key key) (map (λ e. (f e.0, write_of e.1)) cells) ≡ Some w → (i : ℕ) × (c : KeyNumber × Cell) × (slice_get cells i ≡ Some c) × (same_key key (f c.0) ≡ true) × (write_of c.1 ≡ w))
        → (b : Bool) → same_key key (f e.0) ≡ b → cond b (Some (write_of e.1)) (lookup (same_key key) (map (λ e. (f e.0, write_of e.1)) cells)) ≡ Some w
        → (i : ℕ) × (c : KeyNumber × Cell) × (slice_get (e ∷ cells) i ≡ Some c) × (same_key key (f c.0) ≡ true) × (write_of c.1 ≡ w)
    by on true same is = let write : write_of e.1 ≡ w = cc in (0, e, refl, same, write)
    by on false other is = let more = on is in (suc more.0, more.1, more.2, more.3, more.4)

-- ---- bounds and stamps

after-bound : (stamp : ℕ) (w : Write) → nat_lt (bound_of stamp) w.number ≡ true → comes_after stamp w ≡ true
after-bound stamp w later = by (stamp == last_stamp) later
  where
    by : (b : Bool) → nat_lt (if b then 0 else stamp) w.number ≡ true → (b || nat_lt stamp w.number) ≡ true
    by true later = refl
    by false later = later

bound-after : (stamp : ℕ) (w : Write) → 0 < w.number → comes_after stamp w ≡ true → nat_lt (bound_of stamp) w.number ≡ true
bound-after stamp w some comes = by (stamp == last_stamp) comes
  where
    by : (b : Bool) → (b || nat_lt stamp w.number) ≡ true → nat_lt (if b then 0 else stamp) w.number ≡ true
    by true comes = lt-ltb 0 w.number some
    by false comes = comes

persons-equal : (p q : Option (List ℕ)) → option_eq bytes_eq p q ≡ true → p ≡ q
persons-equal None None same = refl
persons-equal (Some p) (Some q) same = ap Some ((bytes_decides p q).0 same)
persons-equal None (Some q) same = cc
persons-equal (Some p) None same = cc

pub keys-equal : (a b : Key) → same_key a b ≡ true → a ≡ b
keys-equal a b same =
    let parts = and_parts (bytes_eq a.uri b.uri) (option_eq bytes_eq a.person b.person) same in
    let uri = (bytes_decides a.uri b.uri).0 parts.0 in
    let person = persons-equal a.person b.person parts.1 in
    λ i. record { uri = uri i; person = person i }

-- ---- what the store keeps

module _ (declared : List (Roomy × Declared)) (persons : List (List ℕ)) (cells : List (KeyNumber × Cell)) (numbering : IsNumbering declared persons) (all : AllByRecursion (IsCell declared persons) cells) (own : IsDistinct same_number (keys_of cells)) where
  its-number : (c : KeyNumber × Cell) → IsCell declared persons c → IsNumberOf declared persons (key_of declared persons c.0) c.0
  its-number c cell = record { uri = record { entry = cell.entry; there = cell.there; same = (bytes_decides (key_of declared persons c.0).uri cell.entry.0.bytes).1 (ap entry_uri cell.there) }; person = by c.0.person cell.person }
    where
      by : (q : Option ℕ) → IsNumbered persons q → IsPersonNumber persons (option_map (λ p. person_text (slice_get persons p)) q) q
      by None there = tt
      by (Some p) there = there.1 ∙ ap Some (sym (ap person_text there.1))

  pub filled : (b : ℕ) (e : ℕ × ℕ) → IsTied cells e → is_later b e ≡ true → (c : KeyNumber × Cell) × (slice_get cells e.0 ≡ Some c) × (nat_lt b c.1.number ≡ true) × IsCell declared persons c
  filled b e tied is = by (slice_get cells e.0) refl
    where
      by : (o : Option (KeyNumber × Cell)) → slice_get cells e.0 ≡ o → (c : KeyNumber × Cell) × (slice_get cells e.0 ≡ Some c) × (nat_lt b c.1.number ≡ true) × IsCell declared persons c
      by None at = let none = tied ∙ ap write_number_in at in let high = ltb-true b e.1 is in absurd (omega (arith, none, high))
      by (Some c) at = (c, at, ap (nat_lt b) (sym (tied ∙ ap write_number_in at)) ∙ is, all-there (IsCell declared persons) cells e.0 c all at)

  last-of : (i : ℕ) (c : KeyNumber × Cell) → slice_get cells i ≡ Some c → lookup (same_key (key_of declared persons c.0)) (map (written_of declared persons) cells) ≡ Some (write_of c.1)
  last-of i c at = written-found declared persons numbering same_number (λ a b. refl) (key_of declared persons c.0) c.0 cells (its-number c (all-there (IsCell declared persons) cells i c all at)) all ∙ ap (option_map write_of) (own-cell cells i c own at)

  module _ (es : List (ℕ × ℕ)) (tied : AllByRecursion (IsTied cells) es) where
    pub all-filled : (b : ℕ) → AllByRecursion (IsFilled declared persons cells) (later b es)
    all-filled b = all_from (IsFilled declared persons cells) (later b es) (λ e c.
        let of = later-are b es e c in
        let f = filled b e (all_at (IsTied cells) es e tied of.0) of.1 in
        (f.0, f.1, f.3))

    -- Each key of the walk was written since the stamp.
    pub walk-since : (stamp : ℕ) (key : Key) → Contains (map (key_at_slot declared persons cells) (later (bound_of stamp) es)) key → is_since stamp (lookup (same_key key) (map (written_of declared persons) cells)) ≡ true
    walk-since stamp key c =
        let m = in-mapped (key_at_slot declared persons cells) (later (bound_of stamp) es) key c in
        let of = later-are (bound_of stamp) es m.0 m.1 in
        let f = filled (bound_of stamp) m.0 (all_at (IsTied cells) es m.0 tied of.0) of.1 in
        let key-is : key_of declared persons f.0.0 ≡ key = sym (ap (key_in declared persons) f.1) ∙ m.2 in
        let last = subst (λ k. lookup (same_key k) (map (written_of declared persons) cells) ≡ Some (write_of f.0.1)) key-is (last-of m.0.0 f.0 f.1) in
        rw (last) (after-bound stamp (write_of f.0.1) f.2)

    -- Each key that was written since the stamp is one of the walk.
    pub since-walk : (stamp top : ℕ) (key : Key) → IsRecency es → length cells ≤ length es → AllByRecursion (IsCounted top) cells → is_since stamp (lookup (same_key key) (map (written_of declared persons) cells)) ≡ true → Contains (map (key_at_slot declared persons cells) (later (bound_of stamp) es)) key
    since-walk stamp top key recency fewer counted since = by (lookup (same_key key) (map (written_of declared persons) cells)) refl since
      where
        by : (o : Option Write) → lookup (same_key key) (map (written_of declared persons) cells) ≡ o → is_since stamp o ≡ true → Contains (map (key_at_slot declared persons cells) (later (bound_of stamp) es)) key
        by None found since = absurd (true≢false (sym since))
        by (Some w) found since =
            let f = found-cell (key_of declared persons) key cells w found in
            let at = f.2 in
            let within = slice_get_within cells f.0 f.1 at in
            let slot = looked-in f.0 es (recency.1 f.0 (omega (arith, within, fewer))) in
            let number : slot.0 ≡ f.1.1.number = all_at (IsTied cells) es (f.0, slot.0) tied slot.1 ∙ ap write_number_in at in
            let some = (all-there (IsCounted top) cells f.0 f.1 counted at).0 in
            let comes : comes_after stamp (write_of f.1.1) ≡ true = ap (comes_after stamp) f.4 ∙ since in
            let high : is_later (bound_of stamp) (f.0, slot.0) ≡ true = ap (nat_lt (bound_of stamp)) number ∙ bound-after stamp (write_of f.1.1) some comes in
            let walk = are-later (bound_of stamp) es (f.0, slot.0) recency.2 slot.1 high in
            subst (Contains (map (key_at_slot declared persons cells) (later (bound_of stamp) es))) (ap (key_in declared persons) at ∙ sym (keys-equal key (key_of declared persons f.1.0) f.3)) (mapped-in (key_at_slot declared persons cells) (later (bound_of stamp) es) (f.0, slot.0) walk)

  other-key : (b : ℕ) (x e : ℕ × ℕ) → IsTied cells x → IsTied cells e → is_later b x ≡ true → is_later b e ≡ true → nat_eq x.0 e.0 ≡ false → same_key (key_at_slot declared persons cells x) (key_at_slot declared persons cells e) ≡ false
  other-key b x e tied-x tied-e later-x later-e other = by (same_key (key_at_slot declared persons cells x) (key_at_slot declared persons cells e)) refl
    where
      c : (c : KeyNumber × Cell) × (slice_get cells x.0 ≡ Some c) × (nat_lt b c.1.number ≡ true) × IsCell declared persons c
      c = filled b x tied-x later-x

      d : (c : KeyNumber × Cell) × (slice_get cells e.0 ≡ Some c) × (nat_lt b c.1.number ≡ true) × IsCell declared persons c
      d = filled b e tied-e later-e

      by : (r : Bool) → same_key (key_at_slot declared persons cells x) (key_at_slot declared persons cells e) ≡ r → r ≡ false
      by false is = refl
      by true is =
          let both : same_key (key_of declared persons c.0.0) (key_of declared persons d.0.0) ≡ true = ap (λ k. same_key k (key_of declared persons d.0.0)) (sym (ap (key_in declared persons) c.1)) ∙ ap (same_key (key_at_slot declared persons cells x)) (sym (ap (key_in declared persons) d.1)) ∙ is in
          let numbers = number-equal c.0.0 d.0.0 (numbers-tell declared persons numbering (key_of declared persons c.0.0) c.0.0 d.0 (its-number c.0 c.3) d.3 ∙ both) in
          absurd (true≢false (sym (eq-eqb x.0 e.0 (one-cell cells x.0 e.0 c.0 d.0 own c.1 d.1 numbers)) ∙ other))

  -- No key stands twice in the walk.
  pub walk-once : (b : ℕ) (es : List (ℕ × ℕ)) → AllByRecursion (IsTied cells) es → IsDistinct nat_eq (keys_of es) → IsDistinct same_key (map (key_at_slot declared persons cells) (later b es))
  unfolding IsDistinct
  walk-once b [] tied distinct = tt
  walk-once b (x ∷ es) tied distinct = by (walk-once b es tied.1 distinct.1) (is_later b x) refl
    where
      by : IsDistinct same_key (map (key_at_slot declared persons cells) (later b es)) → (r : Bool) → is_later b x ≡ r → IsDistinct same_key (map (key_at_slot declared persons cells) (cond r (x ∷ later b es) []))
      by on false is = tt
      by on true is = (
        all_map (key_at_slot declared persons cells) (λ k. same_key (key_at_slot declared persons cells x) k ≡ false) (later b es) (all_from (λ e. same_key (key_at_slot declared persons cells x) (key_at_slot declared persons cells e) ≡ false) (later b es) (λ e c.
            let of = later-are b es e c in
            let differs = all_at (λ f. nat_eq x.0 f.0 ≡ false) es e (all_unmap (λ f. f.0) (λ s. nat_eq x.0 s ≡ false) es distinct.0) of.0 in
            other-key b x e tied.0 (all_at (IsTied cells) es e tied.1 of.0) is of.1 differs)),
        on,
      )
