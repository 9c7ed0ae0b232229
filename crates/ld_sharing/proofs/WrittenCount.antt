-- Keys that were written since a stamp are at most as many as the store counts.
use Rattle.std.proofs.Common.{◌≡◌, refl, sym, ap, subst, ◌∙◌, ℕ, suc, ◌+◌, ◌≤◌, inl, inr, List, [], ◌∷◌, length, Bool, true, false, cond, Some, Contains, ◌↔◌, IsTrue, arith}
use Rattle.std.proofs.lemmas.Bool.{true≢false}
use Rattle.std.proofs.lemmas.List.Sums.{sum_by-cons}
use Rattle.std.specs.List.{AllByRecursion, IsDistinct, count_by}
use Rattle.std.specs.Map.{lookup}
use Rattle.ld_globals.specs.Store.{Key, Store, Write, comes_after, is_since, same_key, written_since}
use Rattle.ld_globals.proofs.Since.{keys-equal}
use Rattle.ld_state.proofs.Elements.{IsIn, contains_from_in}
use Rattle.ld_sharing.specs.Current.{written_count}

-- ---- lists

all_in : {A : Type 0} (P : A → Type 0) (xs : List A) (x : A) → AllByRecursion P xs → IsIn xs x → P x
all_in P [] x all there = absurd there
all_in P (y ∷ ys) x all (inl is) = subst P is all.0
all_in P (y ∷ ys) x all (inr later) = all_in P ys x all.1 later

all_each : {A : Type 0} (P : A → Type 0) (xs : List A) → ((x : A) → IsIn xs x → P x) → AllByRecursion P xs
all_each P [] each = tt
all_each P (y ∷ ys) each = (each y (inl refl), all_each P ys (λ x there. each x (inr there)))

-- The keys but for one.
record Without (key : Key) (keys : List Key) : Type 0 where
  pub rest : List Key
  pub fewer : length keys ≤ suc (length rest)
  pub distinct : IsDistinct same_key rest
  pub inside : (other : Key) → IsIn rest other → IsIn keys other × (same_key other key ≡ false)

without : (key : Key) (keys : List Key) → IsDistinct same_key keys → Without key keys
unfolding IsDistinct
without key [] distinct = record { rest = []; fewer = omega arith; distinct = tt; inside = λ other there. absurd there }
without key (k ∷ ks) distinct = by (same_key k key) refl (without key ks distinct.1)
  where
    by : (b : Bool) → same_key k key ≡ b → Without key ks → Without key (k ∷ ks)
    by true is on = record {
      rest = ks;
      fewer = omega arith;
      distinct = distinct.1;
      inside = λ other there. (inr there, differs other there (same_key other key) refl);
    }
      where
        differs : (other : Key) → IsIn ks other → (b : Bool) → same_key other key ≡ b → b ≡ false
        differs other there false apart = refl
        differs other there true same =
            absurd (true≢false (sym is ∙ ap (same_key k) (sym (keys-equal other key same)) ∙ all_in (λ y. same_key k y ≡ false) ks other distinct.0 there))
    by false apart on = record {
      rest = k ∷ on.rest;
      fewer = omega (arith, on.fewer);
      distinct = (all_each (λ y. same_key k y ≡ false) on.rest (λ y there. all_in (λ z. same_key k z ≡ false) ks y distinct.0 (on.inside y there).0), on.distinct);
      inside = λ other there. elim there [
        | inl same ↦ (inl same, subst (λ one. same_key one key ≡ false) same apart)
        | inr later ↦ let there = on.inside other later in (inr there.0, there.1)
      ];
    }

-- ---- keys

module _ (stamp : ℕ) where
  abbrev came : Key × Write → Bool
  came entry = comes_after stamp entry.1

  -- A key other than that of the first entry.
  further : (e : Key × Write) (es : List (Key × Write)) (key : Key) → same_key key e.0 ≡ false
      → is_since stamp (lookup (same_key key) (e ∷ es)) ≡ true → is_since stamp (lookup (same_key key) es) ≡ true
  further e es key other since = sym (ap (λ b. is_since stamp (cond b (Some e.1) (lookup (same_key key) es))) other) ∙ since

  count_first : (e : Key × Write) (es : List (Key × Write)) → count_by came (e ∷ es) ≡ cond (came e) 1 0 + count_by came es
  count_first e es = sum_by-cons (λ x. cond (came x) 1 0) e es

  few : (es : List (Key × Write)) (keys : List Key) → IsDistinct same_key keys
      → ((key : Key) → IsIn keys key → is_since stamp (lookup (same_key key) es) ≡ true) → length keys ≤ count_by came es
  few [] [] distinct each = omega arith
  few [] (k ∷ ks) distinct each = absurd (true≢false (sym (each k (inl refl))))
  few (e ∷ es) keys distinct each = by (few es) (came e) refl
    where
      by : ((those : List Key) → IsDistinct same_key those → ((key : Key) → IsIn those key → is_since stamp (lookup (same_key key) es) ≡ true) → length those ≤ count_by came es)
          → (b : Bool) → came e ≡ b → length keys ≤ count_by came (e ∷ es)
      by on true is =
          let others = without e.0 keys distinct in
          let most = on others.rest others.distinct (λ key there.
          let both = others.inside key there in further e es key both.1 (each key both.0)) in
          subst (λ count. length keys ≤ count) (sym (count_first e es ∙ ap (λ b. cond b 1 0 + count_by came es) is))
          (omega (arith, others.fewer, most))
      by on false is =
          let most = on keys distinct (λ key there. further e es key (differs key there (same_key key e.0) refl) (each key there)) in
          subst (λ count. length keys ≤ count) (sym (count_first e es ∙ ap (λ b. cond b 1 0 + count_by came es) is))
          (omega (arith, most))
        where
          differs : (key : Key) → IsIn keys key → (b : Bool) → same_key key e.0 ≡ b → b ≡ false
          differs key there false apart = refl
          differs key there true same =
              absurd (true≢false (sym (each key there) ∙ ap (λ b. is_since stamp (cond b (Some e.1) (lookup (same_key key) es))) same ∙ is))

-- The keys that were written since, each once.
pub counted : (store : Store) (stamp : ℕ) (keys : List Key) → IsDistinct same_key keys
    → ((key : Key) → Contains keys key ↔ IsTrue (written_since store stamp key)) → length keys ≤ written_count store stamp
counted store stamp keys distinct exactly =
    few stamp store.written keys distinct (λ key there. (exactly key).0 (contains_from_in keys key there))
