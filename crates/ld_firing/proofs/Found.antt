-- What is found in a list, and what a list keeps of the values of its elements.
use Rattle.std.proofs.Common.{◌≡◌, refl, sym, ap, subst, ◌∙◌, ℕ, suc, ◌+◌, ◌<◌, ◌⊎◌, inl, inr, List, [], ◌∷◌, length, filter_map, find, slice_get, Option, Some, None, Bool, true, false, cond, arith}
use Rattle.std.proofs.lemmas.Option.{slice_get_within}
use Rattle.std.specs.List.{position_from, cons_option}
use Rattle.ld_model.specs.Counting.{number_where}
use Rattle.ld_state.proofs.Elements.{IsIn, none_is_some, some_same}

-- The first that passes the test.
pub record Found {A : Type 0} (test : A → Bool) (xs : List A) (i k : ℕ) : Type 0 where
  pub number : ℕ
  pub element : A
  pub sum : k ≡ i + number
  pub at : slice_get xs number ≡ Some element
  pub passes : test element ≡ true

pub found_by : {A : Type 0} → (test : A → Bool) (xs : List A) (i k : ℕ) → position_from test i xs ≡ Some k
    → Found test xs i k
found_by test [] i k found = none_is_some found
found_by test (x ∷ xs) i k found = by (found_by test xs (i + 1) k) (test x) refl found
  where
    by : (position_from test (i + 1) xs ≡ Some k → Found test xs (i + 1) k) → (b : Bool) → test x ≡ b
        → cond b (Some i) (position_from test (i + 1) xs) ≡ Some k → Found test (x ∷ xs) i k
    by rest true passes is = record { number = 0; element = x; sum = omega (arith, some_same is); at = refl; passes = passes }
    by rest false fails is = let later = rest is in record { number = suc later.number; element = later.element; sum = omega (arith, later.sum); at = later.at; passes = later.passes }

pub number_there : {A : Type 0} → (test : A → Bool) (xs : List A) (k : ℕ) → number_where test xs ≡ Some k
    → k < length xs
number_there test xs k found =
    let by = found_by test xs 0 k found in
    omega (arith, by.sum, slice_get_within xs by.number by.element by.at)

-- The element that `find` gives.
pub record Chosen {A : Type 0} (test : A → Bool) (xs : List A) (x : A) : Type 0 where
  pub inside : IsIn xs x
  pub passes : test x ≡ true

pub chosen_by : {A : Type 0} → (test : A → Bool) (xs : List A) (x : A) → find test xs ≡ Some x
    → Chosen test xs x
chosen_by test [] x found = none_is_some found
chosen_by test (y ∷ ys) x found = by (chosen_by test ys x) (test y) refl found
  where
    by : (find test ys ≡ Some x → Chosen test ys x) → (b : Bool) → test y ≡ b
        → cond b (Some y) (find test ys) ≡ Some x → Chosen test (y ∷ ys) x
    by rest true passes is = record { inside = inl (some_same is); passes = subst (λ w. test w ≡ true) (some_same is) passes }
    by rest false fails is = let later = rest is in record { inside = inr later.inside; passes = later.passes }

past : {A : Type 0} → (o : Option A) (ys : List A) (y : A) → IsIn ys y → IsIn (cons_option o ys) y
past None ys y there = there
past (Some z) ys y there = inr there

pub in_filter_map : {A B : Type 0} → (h : A → Option B) (xs : List A) (x : A) (y : B) → IsIn xs x → h x ≡ Some y
    → IsIn (filter_map h xs) y
in_filter_map h [] x y there gives = absurd there
in_filter_map h (z ∷ zs) x y (inl is) gives =
    subst (λ o. IsIn (cons_option o (filter_map h zs)) y) (sym (ap h is ∙ gives)) (inl refl)
in_filter_map h (z ∷ zs) x y (inr there) gives = past (h z) (filter_map h zs) y (in_filter_map h zs x y there gives)

-- What an element of the list gives.
pub record Given {A B : Type 0} (h : A → Option B) (xs : List A) (y : B) : Type 0 where
  pub element : A
  pub inside : IsIn xs element
  pub gives : h element ≡ Some y

pub given_by : {A B : Type 0} → (h : A → Option B) (xs : List A) (y : B) → IsIn (filter_map h xs) y
    → Given h xs y
given_by h [] y there = absurd there
given_by h (z ∷ zs) y there = by (given_by h zs y) (h z) refl there
  where
    further : Given h zs y → Given h (z ∷ zs) y
    further later = record { element = later.element; inside = inr later.inside; gives = later.gives }

    here : (w : _) → h z ≡ Some w → (w ≡ y) ⊎ IsIn (filter_map h zs) y
        → (IsIn (filter_map h zs) y → Given h zs y) → Given h (z ∷ zs) y
    here w gives (inl is) rest = record { element = z; inside = inl refl; gives = gives ∙ ap Some is }
    here w gives (inr later) rest = further (rest later)

    by : (IsIn (filter_map h zs) y → Given h zs y) → (o : Option _) → h z ≡ o
        → IsIn (cons_option o (filter_map h zs)) y → Given h (z ∷ zs) y
    by rest None gives later = further (rest later)
    by rest (Some w) gives there = here w gives there rest
