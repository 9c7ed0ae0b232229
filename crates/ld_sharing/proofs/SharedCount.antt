-- How many global properties there are, counted one after another.
use Rattle.std.proofs.Common.{◌≡◌, ap, ◌∙◌, ℕ, zero, suc, ◌+◌, ◌≤◌, List, [], ◌∷◌, filter, length, slice_get, take, Bool, true, false, cond, arith}
use Rattle.std.proofs.lemmas.Bool.{and_from}
use Rattle.ld_globals.specs.Store.{Store}
use Rattle.ld_model.specs.Properties.{is_personal}
use Rattle.ld_model.specs.declared.unit.Unit.{Unit}
use Rattle.ld_expr.specs.Lookup.{is_some_and}
use Rattle.ld_expr.specs.Owners.{is_global}
use Rattle.ld_value.specs.Datum.{same_truth}
use Rattle.ld_sharing.specs.Readable.{IsShared}
use Rattle.ld_sharing.specs.StoreView.{is_shared}
use Rattle.ld_sharing.proofs.Currents.{truth_itself}

-- A property that the store shares is one of them.
pub shared_counts : (unit : Unit) (store : Store) (n : ℕ) (uri : List ℕ) (personal : Bool) → IsShared unit store n uri personal
    → is_some_and (is_shared personal) (slice_get unit.properties n) ≡ true
shared_counts unit store n uri personal shared =
    ap (is_some_and (is_shared personal)) shared.at
    ∙ and_from (is_global shared.property.kind) (same_truth (is_personal shared.property.kind) personal) shared.global
    (ap (λ b. same_truth b personal) shared.personal_is ∙ truth_itself personal)

-- One more is looked at.
module _ {A : Type 0} (test : A → Bool) where
  first_counted : (x : A) (xs : List A) → length (filter test (x ∷ xs)) ≡ cond (test x) 1 0 + length (filter test xs)
  first_counted x xs = by (test x)
    where
      by : (b : Bool) → length (cond b (x ∷ filter test xs) (filter test xs)) ≡ cond b 1 0 + length (filter test xs)
      by true = omega arith
      by false = omega arith

  pub counted_more : (xs : List A) (i : ℕ) → length (filter test (take i xs)) + cond (is_some_and test (slice_get xs i)) 1 0
      ≤ length (filter test (take (suc i) xs))
  counted_more [] zero = omega arith
  counted_more [] (suc i) = omega arith
  counted_more (x ∷ xs) zero = omega (arith, first_counted x [])
  counted_more (x ∷ xs) (suc i) =
      omega (arith, first_counted x (take i xs), first_counted x (take (suc i) xs), counted_more xs i)

  pub counted_within : (xs : List A) (i : ℕ) → length (filter test (take i xs)) ≤ length (filter test xs)
  counted_within [] zero = omega arith
  counted_within [] (suc i) = omega arith
  counted_within (x ∷ xs) zero = omega arith
  counted_within (x ∷ xs) (suc i) = omega (arith, first_counted x (take i xs), first_counted x xs, counted_within xs i)

  -- What is spent: one for each of those that were looked at.
  module _ (xs : List A) (i start before now : ℕ) (spent : before ≤ start + length (filter test (take i xs)))
      (one : now ≤ before + cond (is_some_and test (slice_get xs i)) 1 0) where
    pub spent_next : now ≤ start + length (filter test (take (i + 1) xs))
    spent_next =
        let more : suc i ≡ i + 1 = omega arith in
        let further = ap (λ n. length (filter test (take n xs))) more in
        omega (arith, spent, one, counted_more xs i, further)

    pub spent_within : now ≤ start + length (filter test xs)
    spent_within = omega (arith, spent, one, counted_more xs i, counted_within xs (suc i))
